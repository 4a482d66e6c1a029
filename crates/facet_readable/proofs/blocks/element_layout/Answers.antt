use Rattle.std.proofs.Common.{[], ◌<◌, All, length, sym, subst}
use Rattle.std.specs.Option.{option_to_list}
use Rattle.std.proofs.lemmas.List.Elements.{All-head}
use Rattle.facet_readable.proofs.BlockLayouts.{layout_of_one}
use Rattle.facet_readable.specs.Blocks.{IsLayoutOf}
use Rattle.facet_readable.proofs.blocks.element_layout.Goals as goal

pub returns-in-Some : goal.returns-in-Some
returns-in-Some g c =
    let shapes = c.args.shapes.now.sealed in
    let id = c.in-Some.id in
    let known = All-head (λ id. id.0 < length shapes) id [] (subst (λ e. All (λ id. id.0 < length shapes) (option_to_list e)) c.in-Some.is c.requires) in
    subst (λ e. IsLayoutOf shapes (option_to_list e) c.without_gaps.result) (sym c.in-Some.is)
    (layout_of_one shapes id c.size_of.result (c.size_of.ensures.sealed known) c.without_gaps.result c.without_gaps.ensures)

use Rattle.std.proofs.Common.{inl, inr, sym, ap, ◌∙◌}
use Rattle.facet_drop.proofs.HeldValues.{inline_seen, inline_told, tagged_told}
use Rattle.facet_drop.specs.Makeup.{parts_of_seen}
use Rattle.facet_trees.specs.Structure.{structure_at}
use Rattle.facet_walk.specs.Look.{pointed}
use Rattle.facet_drop.proofs.inline_parts.inline_parts.Goals as goal

pub returns-in-Inline : goal.returns-in-Inline
returns-in-Inline g c =
    let sealed = c.args.shapes.now.sealed in
    let structure = structure_at sealed c.args.id.0 in
    let seen = c.parts_in.ensures ∙ ap parts_of_seen c.see.ensures in
    elim c.in-Inline.is [
      | inl inline ↦ seen ∙ inline_seen sealed (pointed c.args.id c.args.at) (inline_told structure (sym inline ∙ c.makeup_of.ensures))
      | inr tagged ↦ seen ∙ inline_seen sealed (pointed c.args.id c.args.at) (tagged_told structure (sym tagged ∙ c.makeup_of.ensures))
    ]

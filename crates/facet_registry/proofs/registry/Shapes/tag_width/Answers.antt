use Rattle.std.proofs.Common.{◌∙◌, ap}
use Rattle.facet_registry.specs.Offsets.{tag_width_at}
use Rattle.facet_registry.proofs.SealedReadings.{tag_width_stays}
use Rattle.facet_registry.proofs.registry.Shapes.tag_width.Goals as goal

pub returns : goal.returns
returns g c =
    let now = c.args.self.now in
    c.tag_width_at.ensures ∙ ap (λ xs. tag_width_at xs c.args.id.0) c.all_shapes.ensures.all ∙ tag_width_stays g.L.Leaf.model now.sealed now.drafts c.all_shapes.ensures.sealed c.args.id.0 c.requires.sealed

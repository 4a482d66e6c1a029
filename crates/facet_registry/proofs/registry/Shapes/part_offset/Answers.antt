use Rattle.std.proofs.Common.{◌∙◌, ap}
use Rattle.facet_registry.specs.Offsets.{part_offset_at}
use Rattle.facet_registry.proofs.SealedReadings.{part_offset_stays}
use Rattle.facet_registry.proofs.registry.Shapes.part_offset.Goals as goal

pub returns : goal.returns
returns g c =
    let now = c.args.self.now in
    c.part_offset_at.ensures ∙ ap (λ xs. part_offset_at xs c.args.id.0) c.all_shapes.ensures.all ∙ part_offset_stays g.L.Leaf.model now.sealed now.drafts c.all_shapes.ensures.sealed c.args.id.0 c.requires.sealed

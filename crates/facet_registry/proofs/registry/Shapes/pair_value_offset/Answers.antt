use Rattle.std.proofs.Common.{◌∙◌, ap}
use Rattle.facet_registry.specs.Offsets.{pair_value_offset_at}
use Rattle.facet_registry.proofs.SealedReadings.{pair_value_offset_stays}
use Rattle.facet_registry.proofs.registry.Shapes.pair_value_offset.Goals as goal

pub returns : goal.returns
returns g c =
    let now = c.args.self.now in
    c.pair_value_offset_at.ensures ∙ ap (λ xs. pair_value_offset_at xs c.args.id.0) c.all_shapes.ensures.all ∙ pair_value_offset_stays g.L.Leaf.model now.sealed now.drafts c.all_shapes.ensures.sealed c.args.id.0 c.requires.sealed

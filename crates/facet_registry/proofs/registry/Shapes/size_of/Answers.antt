use Rattle.std.proofs.Common.{◌∙◌, ap}
use Rattle.facet_registry.specs.Registry.{size_at}
use Rattle.facet_registry.proofs.SealedReadings.{size_stays}
use Rattle.facet_registry.proofs.registry.Shapes.size_of.Goals as goal

pub returns-clause-sealed : goal.returns-clause-sealed
returns-clause-sealed g c below =
    let now = c.args.self.now in
    c.size_at.ensures ∙ ap (λ xs. size_at xs c.args.id.0) c.all_shapes.ensures.all ∙ size_stays g.L.Leaf.model now.sealed now.drafts c.all_shapes.ensures.sealed c.args.id.0 below

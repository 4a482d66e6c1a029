use Rattle.std.proofs.Common.{◌∙◌, ap}
use Rattle.facet_registry.specs.Registry.{kind_at}
use Rattle.facet_registry.proofs.SealedReadings.{kind_stays}
use Rattle.facet_registry.proofs.registry.Shapes.kind_of.Goals as goal

pub returns-clause-sealed : goal.returns-clause-sealed
returns-clause-sealed g c below =
    let now = c.args.self.now in
    c.kind_at.ensures ∙ ap (λ xs. kind_at xs c.args.id.0) c.all_shapes.ensures.all ∙ kind_stays g.L.Leaf.model now.sealed now.drafts c.all_shapes.ensures.sealed c.args.id.0 below

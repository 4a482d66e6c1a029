use Rattle.std.proofs.Common.{◌∙◌, ap}
use Rattle.facet_registry.specs.Registry.{offers}
use Rattle.facet_registry.proofs.SealedReadings.{offer_stays}
use Rattle.facet_registry.proofs.registry.Shapes.offers.Goals as goal

pub returns-clause-sealed : goal.returns-clause-sealed
returns-clause-sealed g c below =
    let now = c.args.self.now in
    c.offers.ensures ∙ ap (λ xs. offers xs c.args.id.0 c.args.c) c.all_shapes.ensures.all ∙ offer_stays g.L.Leaf.model now.sealed now.drafts c.all_shapes.ensures.sealed c.args.id.0 below c.args.c

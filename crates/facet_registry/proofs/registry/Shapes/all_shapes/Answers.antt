use Rattle.std.proofs.Common.{subst}
use Rattle.facet_causes.specs.Causes.{IsWellFormed}
use Rattle.facet_registry.proofs.Drafts.{all_of}
use Rattle.facet_registry.proofs.registry.Shapes.all_shapes.Goals as goal

pub returns-clause-all : goal.returns-clause-all
returns-clause-all g c = all_of c.args.self.now c.self.inside.sealed c.self.inside.shapes c.self.view_is

pub returns-clause-sealed : goal.returns-clause-sealed
returns-clause-sealed g c = subst (λ r. IsWellFormed g.L.Leaf.model r.sealed) c.self.view_is c.self.invariant.is.well_formed

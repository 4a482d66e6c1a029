use Rattle.facet_registry.proofs.Drafts.{count_sealed}
use Rattle.facet_registry.proofs.registry.Shapes.sealed.Goals as goal

pub returns-clause-count : goal.returns-clause-count
returns-clause-count g c = count_sealed c.args.self.now c.self.inside.sealed c.self.inside.shapes c.self.invariant.within c.self.view_is

use Rattle.facet_verdict.proofs.Naming.{first_named}
use Rattle.facet_verdict.proofs.laws.the_first_cause_is_named.Goals as goal

pub returns : goal.returns
returns g c = first_named g.L.Leaf.model

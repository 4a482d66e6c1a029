use Rattle.facet_causes.proofs.Ranks.{one_first}
use Rattle.facet_causes.proofs.laws.one_first_cause.Goals as goal

pub returns : goal.returns
returns g c = one_first g.L.Leaf.model

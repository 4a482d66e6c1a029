use Rattle.facet_causes.proofs.Bounded.{values_are_bounded}
use Rattle.facet_causes.proofs.laws.values_are_bounded.Goals as goal

pub returns : goal.returns
returns g c = λ shapes well. values_are_bounded g.L.Leaf.model shapes well

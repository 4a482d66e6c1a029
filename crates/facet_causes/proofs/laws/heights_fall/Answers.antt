use Rattle.facet_causes.proofs.Bounded.{heights_fall}
use Rattle.facet_causes.proofs.laws.heights_fall.Goals as goal

pub returns : goal.returns
returns g c = λ shapes well. heights_fall g.L.Leaf.model shapes well

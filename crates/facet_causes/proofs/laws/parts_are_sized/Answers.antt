use Rattle.facet_causes.proofs.PartsKnown.{parts_are_sized}
use Rattle.facet_causes.proofs.laws.parts_are_sized.Goals as goal

pub returns : goal.returns
returns g c = λ shapes well. parts_are_sized g.L.Leaf.model shapes well

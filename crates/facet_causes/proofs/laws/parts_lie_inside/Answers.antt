use Rattle.facet_causes.proofs.PartsInside.{parts_lie_inside}
use Rattle.facet_causes.proofs.laws.parts_lie_inside.Goals as goal

pub returns : goal.returns
returns g c = λ shapes well. parts_lie_inside g.L.Leaf.model shapes well

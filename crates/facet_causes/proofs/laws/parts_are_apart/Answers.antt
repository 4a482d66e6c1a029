use Rattle.facet_causes.proofs.PartsApart.{parts_are_apart}
use Rattle.facet_causes.proofs.laws.parts_are_apart.Goals as goal

pub returns : goal.returns
returns g c = λ shapes well. parts_are_apart g.L.Leaf.model shapes well

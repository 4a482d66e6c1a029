use Rattle.facet_causes.proofs.PartsAligned.{parts_are_aligned}
use Rattle.facet_causes.proofs.laws.parts_are_aligned.Goals as goal

pub returns : goal.returns
returns g c = λ shapes well. parts_are_aligned g.L.Leaf.model shapes well

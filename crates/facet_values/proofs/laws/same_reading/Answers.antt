use Rattle.facet_values.proofs.LaidOut.{laid_out}
use Rattle.facet_values.proofs.SameReading.{reads_alike}
use Rattle.facet_values.proofs.laws.same_reading.Goals as goal

pub returns : goal.returns
returns g c = λ shapes p q v well. reads_alike g.L.Leaf.model shapes (laid_out g.L.Leaf.model shapes well) p q v

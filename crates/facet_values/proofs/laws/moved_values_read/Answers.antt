use Rattle.facet_values.proofs.LaidOut.{laid_out}
use Rattle.facet_values.proofs.MovedValues.{moved_cleared, moved_reads}
use Rattle.facet_values.proofs.laws.moved_values_read.Goals as goal

pub returns-clause-reads : goal.returns-clause-reads
returns-clause-reads g c = λ shapes p to at v well known room reads. moved_reads g.L.Leaf.model shapes p v reads (laid_out g.L.Leaf.model shapes well) known to at room

pub returns-clause-cleared : goal.returns-clause-cleared
returns-clause-cleared g c = λ shapes p v reads. moved_cleared g.L.Leaf.model shapes p v reads

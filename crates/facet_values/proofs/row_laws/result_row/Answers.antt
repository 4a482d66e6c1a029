use Rattle.facet_values.proofs.KindRows.{result_row}
use Rattle.facet_values.proofs.row_laws.result_row.Goals as goal

pub returns : goal.returns
returns g c = λ shapes p v shape r found. result_row g.L.Leaf.model shapes p v shape found r

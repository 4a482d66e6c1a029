use Rattle.facet_values.proofs.KindRows.{unit_row}
use Rattle.facet_values.proofs.row_laws.unit_row.Goals as goal

pub returns : goal.returns
returns g c = λ shapes p v shape found. unit_row g.L.Leaf.model shapes p v shape found

use Rattle.facet_values.proofs.KindRows.{enum_row}
use Rattle.facet_values.proofs.row_laws.enum_row.Goals as goal

pub returns : goal.returns
returns g c = λ shapes p v shape e found. enum_row g.L.Leaf.model shapes p v shape found e

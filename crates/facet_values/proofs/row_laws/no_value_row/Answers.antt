use Rattle.facet_values.proofs.KindRows.{no_value_row}
use Rattle.facet_values.proofs.row_laws.no_value_row.Goals as goal

pub returns : goal.returns
returns g c = λ shapes p v shape found. no_value_row g.L.Leaf.model shapes p v shape found

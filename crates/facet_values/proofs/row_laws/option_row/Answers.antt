use Rattle.facet_values.proofs.KindRows.{option_row}
use Rattle.facet_values.proofs.row_laws.option_row.Goals as goal

pub returns : goal.returns
returns g c = λ shapes p v shape o found. option_row g.L.Leaf.model shapes p v shape found o

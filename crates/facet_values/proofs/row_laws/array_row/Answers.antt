use Rattle.facet_values.proofs.KindRows.{array_row}
use Rattle.facet_values.proofs.row_laws.array_row.Goals as goal

pub returns : goal.returns
returns g c = λ shapes p v shape a found. array_row g.L.Leaf.model shapes p v shape found a

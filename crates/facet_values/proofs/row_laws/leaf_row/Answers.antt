use Rattle.facet_values.proofs.KindRows.{leaf_row}
use Rattle.facet_values.proofs.row_laws.leaf_row.Goals as goal

pub returns : goal.returns
returns g c = λ shapes p v shape k found. leaf_row g.L.Leaf.model shapes p v shape found k

use Rattle.facet_values.proofs.KindRows.{struct_row}
use Rattle.facet_values.proofs.row_laws.struct_row.Goals as goal

pub returns : goal.returns
returns g c = λ shapes p v shape st found. struct_row g.L.Leaf.model shapes p v shape found st

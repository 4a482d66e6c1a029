use Rattle.facet_values.proofs.KindRows.{list_row}
use Rattle.facet_values.proofs.row_laws.list_row.Goals as goal

pub returns : goal.returns
returns g c = λ shapes p v shape d found. list_row g.L.Leaf.model shapes p v shape found d

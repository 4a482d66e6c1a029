use Rattle.facet_values.proofs.KindRows.{map_row}
use Rattle.facet_values.proofs.row_laws.map_row.Goals as goal

pub returns : goal.returns
returns g c = λ shapes p v shape d found. map_row g.L.Leaf.model shapes p v shape found d

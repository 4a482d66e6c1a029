use Rattle.facet_values.proofs.KindRows.{set_row}
use Rattle.facet_values.proofs.row_laws.set_row.Goals as goal

pub returns : goal.returns
returns g c = λ shapes p v shape d found. set_row g.L.Leaf.model shapes p v shape found d

use Rattle.facet_values.proofs.KindRows.{box_row}
use Rattle.facet_values.proofs.row_laws.box_row.Goals as goal

pub returns : goal.returns
returns g c = λ shapes p v shape d id found. box_row g.L.Leaf.model shapes p v shape found d id

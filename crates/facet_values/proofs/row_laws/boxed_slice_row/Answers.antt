use Rattle.facet_values.proofs.KindRows.{boxed_slice_row}
use Rattle.facet_values.proofs.row_laws.boxed_slice_row.Goals as goal

pub returns : goal.returns
returns g c = λ shapes p v shape element found. boxed_slice_row g.L.Leaf.model shapes p v shape found element

use Rattle.facet_values.proofs.WholePlaces.{nothing_read}
use Rattle.facet_values.proofs.laws.shapes_without_values_have_none.Goals as goal

pub returns : goal.returns
returns g c = λ shapes p v of. nothing_read g.L.Leaf.model shapes p v of

use Rattle.facet_values.proofs.ValueAt.{the_value_is_found}
use Rattle.facet_values.proofs.laws.the_value_is_found.Goals as goal

pub returns : goal.returns
returns g c = λ shapes levels p v. the_value_is_found g.L.Leaf.model shapes levels p v

use Rattle.facet_causes.proofs.KeysOrdered.{keys_are_ordered}
use Rattle.facet_causes.proofs.laws.keys_are_ordered.Goals as goal

pub returns : goal.returns
returns g c = λ shapes well. keys_are_ordered g.L.Leaf.model shapes well

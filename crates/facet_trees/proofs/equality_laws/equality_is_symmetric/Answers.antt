use Rattle.facet_trees.proofs.OrderLaws.{equality_symmetric}
use Rattle.facet_trees.proofs.equality_laws.equality_is_symmetric.Goals as goal

pub returns : goal.returns
returns g c shapes s v w well = equality_symmetric g.L.Leaf.model g.met.L.Leaf.laws shapes well s v w

use Rattle.facet_trees.proofs.OrderLaws.{ordering_reversed}
use Rattle.facet_trees.proofs.laws.orders_are_reversed.Goals as goal

pub returns : goal.returns
returns g c shapes which s v w well = ordering_reversed g.L.Leaf.model g.met.L.Leaf.laws shapes well which s v w

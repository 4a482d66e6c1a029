use Rattle.facet_trees.proofs.OrderLaws.{ordering_reflexive}
use Rattle.facet_trees.proofs.laws.total_order_is_reflexive.Goals as goal

pub returns : goal.returns
returns g c shapes s v well = ordering_reflexive g.L.Leaf.model g.met.L.Leaf.laws shapes well s v

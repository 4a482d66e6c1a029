use Rattle.facet_trees.specs.Order.{by_total}
use Rattle.facet_trees.proofs.OrderLaws.{ordering_answers}
use Rattle.facet_trees.proofs.laws.total_order_is_total.Goals as goal

pub returns : goal.returns
returns g c shapes s v w well = ordering_answers g.L.Leaf.model g.met.L.Leaf.laws shapes well by_total s v w

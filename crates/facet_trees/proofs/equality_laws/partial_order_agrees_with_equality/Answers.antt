use Rattle.facet_trees.specs.Equal.{equality}
use Rattle.facet_trees.specs.Order.{by_partial, ordering}
use Rattle.facet_trees.proofs.AnswersAgree.{agree_iff}
use Rattle.facet_trees.proofs.OrderLaws.{ordering_agrees}
use Rattle.facet_trees.proofs.equality_laws.partial_order_agrees_with_equality.Goals as goal

pub returns : goal.returns
returns g c shapes s v w well all fits also =
    let m = g.L.Leaf.model in
    agree_iff (ordering m shapes by_partial s v w) (equality m shapes s v w) (ordering_agrees m g.met.L.Leaf.laws shapes well by_partial s v w all fits also)

use Rattle.facet_trees.proofs.OrderLaws.{equality_differs}
use Rattle.facet_trees.proofs.equality_laws.ranks_and_lengths_come_first.Goals as goal

pub returns : goal.returns
returns g c shapes = equality_differs g.L.Leaf.model shapes

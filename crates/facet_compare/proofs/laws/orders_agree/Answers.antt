use Rattle.facet_compare.proofs.ComparisonLaws.{orders_same}
use Rattle.facet_compare.proofs.laws.orders_agree.Goals as goal

pub returns : goal.returns
returns g c shapes s v w well = orders_same g.L.Leaf.model g.met.L.Leaf.laws shapes well s v w

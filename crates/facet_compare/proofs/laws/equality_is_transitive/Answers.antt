use Rattle.facet_compare.proofs.ComparisonLaws.{equality_transitive}
use Rattle.facet_compare.proofs.laws.equality_is_transitive.Goals as goal

pub returns : goal.returns
returns g c shapes s u v w well = equality_transitive g.L.Leaf.model g.met.L.Leaf.laws shapes well s u v w

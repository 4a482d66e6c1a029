use Rattle.facet_compare.proofs.HashLaws.{same_hash}
use Rattle.facet_compare.proofs.laws.equal_values_write_the_same.Goals as goal

pub returns : goal.returns
returns g c shapes s v w well = same_hash g.L.Leaf.model shapes well g.met.L.Leaf.laws s v w

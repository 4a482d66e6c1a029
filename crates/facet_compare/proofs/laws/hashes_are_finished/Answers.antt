use Rattle.facet_compare.proofs.HashLaws.{hash_finished}
use Rattle.facet_compare.proofs.laws.hashes_are_finished.Goals as goal

pub returns : goal.returns
returns g c shapes s v well = hash_finished g.L.Leaf.model shapes well s v

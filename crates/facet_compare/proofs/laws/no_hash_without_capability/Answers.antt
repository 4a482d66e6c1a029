use Rattle.facet_compare.proofs.HashLaws.{unhashed}
use Rattle.facet_compare.proofs.laws.no_hash_without_capability.Goals as goal

pub returns : goal.returns
returns g c shapes s v is = unhashed g.L.Leaf.model shapes s v is

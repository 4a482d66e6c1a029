use Rattle.facet_make.proofs.CloneLaws.{no_clone}
use Rattle.facet_make.proofs.laws.no_clone_without_capability.Goals as goal

pub returns : goal.returns
returns g c shapes s v = no_clone g.L.Leaf.model shapes s v

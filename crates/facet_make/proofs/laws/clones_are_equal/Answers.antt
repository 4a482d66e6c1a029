use Rattle.facet_make.proofs.CloneLaws.{clone_equal}
use Rattle.facet_make.proofs.laws.clones_are_equal.Goals as goal

pub returns : goal.returns
returns g c shapes s v w well = clone_equal g.L.Leaf.model shapes well g.met.L.Leaf.laws s v w

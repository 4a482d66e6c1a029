use Rattle.facet_make.proofs.CloneLaws.{clone_fits}
use Rattle.facet_make.proofs.laws.clones_fit.Goals as goal

pub returns : goal.returns
returns g c shapes s v w well = clone_fits g.L.Leaf.model shapes well g.met.L.Leaf.laws s v w

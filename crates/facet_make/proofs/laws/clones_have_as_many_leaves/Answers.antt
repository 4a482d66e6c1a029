use Rattle.facet_make.proofs.CloneLaws.{clone_size}
use Rattle.facet_make.proofs.laws.clones_have_as_many_leaves.Goals as goal

pub returns-clause-leaves : goal.returns-clause-leaves
returns-clause-leaves g c shapes s v w fits e = (clone_size g.L.Leaf.model shapes s v w fits e).leaves

pub returns-clause-levels : goal.returns-clause-levels
returns-clause-levels g c shapes s v w fits e = (clone_size g.L.Leaf.model shapes s v w fits e).levels

use Rattle.facet_make.proofs.DefaultLaws.{default_fits, default_shallow}
use Rattle.facet_make.proofs.laws.defaults_fit.Goals as goal

pub returns-clause-fits : goal.returns-clause-fits
returns-clause-fits g c shapes levels s v = default_fits g.L.Leaf.model shapes g.met.L.Leaf.laws levels s v

pub returns-clause-levels : goal.returns-clause-levels
returns-clause-levels g c shapes levels s v = default_shallow g.L.Leaf.model shapes levels s v

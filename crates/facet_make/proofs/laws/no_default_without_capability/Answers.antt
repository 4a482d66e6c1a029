use Rattle.facet_make.proofs.DefaultCases.{case_unoffered}
use Rattle.facet_make.proofs.laws.no_default_without_capability.Goals as goal

pub returns : goal.returns
returns g c shapes levels s = case_unoffered g.L.Leaf.model shapes levels s

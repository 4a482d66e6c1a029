use Rattle.facet_make.proofs.DefaultLaws.{default_higher, default_sealed}
use Rattle.facet_make.proofs.laws.defaults_need_no_more_levels.Goals as goal

pub returns-clause-height : goal.returns-clause-height
returns-clause-height g c shapes s h n = default_higher g.L.Leaf.model shapes h n s

pub returns-clause-sealed : goal.returns-clause-sealed
returns-clause-sealed g c shapes s n well = default_sealed g.L.Leaf.model shapes well n s

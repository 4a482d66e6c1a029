use Rattle.facet_causes.proofs.PartsAligned.{pairs_hold_both}
use Rattle.facet_causes.proofs.laws.pairs_hold_both.Goals as goal

pub returns : goal.returns
returns g c = λ shapes well. pairs_hold_both g.L.Leaf.model shapes well

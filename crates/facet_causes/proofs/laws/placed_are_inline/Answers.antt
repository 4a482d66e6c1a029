use Rattle.facet_causes.proofs.PartsKnown.{placed_are_inline}
use Rattle.facet_causes.proofs.laws.placed_are_inline.Goals as goal

pub returns : goal.returns
returns c = placed_are_inline

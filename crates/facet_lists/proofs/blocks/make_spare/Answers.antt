use Rattle.facet_lists.proofs.FilledBlocks.{room_empty, room_refused, room_some}
use Rattle.facet_lists.proofs.blocks.make_spare.Goals as goal

pub returns-clause-some : goal.returns-clause-some
returns-clause-some g c = room_some _ _ _ c.reserve.ensures.ok

pub returns-clause-empty : goal.returns-clause-empty
returns-clause-empty g c = room_empty _ _ _ c.requires.empty c.reserve.ensures.ok

pub returns-clause-same : goal.returns-clause-same
returns-clause-same g c = room_refused _ _ _ c.reserve.ensures.err

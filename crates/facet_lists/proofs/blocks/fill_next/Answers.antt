use Rattle.facet_lists.proofs.FilledBlocks.{filled_next}
use Rattle.facet_lists.proofs.blocks.fill_next.Goals as goal

pub returns-clause-pushed : goal.returns-clause-pushed
returns-clause-pushed g c = filled_next _ c.args.source.now c.args.from _ _ c.args.longer c.requires.longer c.requires.some c.requires.empty c.fill_slot.ensures.filled c.set_len.ensures

use Rattle.facet_lists.proofs.ChangedLists.{set_len_reads}
use Rattle.facet_lists.proofs.lists.set_len.Goals as goal

pub returns-clause-made : goal.returns-clause-made
returns-clause-made g c = set_len_reads c.requires.holds c.requires.kind _ c.cut_blocks.ensures

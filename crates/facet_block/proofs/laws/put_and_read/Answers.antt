use Rattle.std.proofs.Common.{arith}
use Rattle.facet_block.proofs.ItemChanges.{with_item_back}
use Rattle.facet_block.proofs.laws.put_and_read.Goals as goal

pub returns-clause-same : goal.returns-clause-same
returns-clause-same g c = grind (arith, with_item_back)

use Rattle.std.proofs.Common.{ℕ, ◌<◌, get_or}
use Rattle.facet_block.specs.Seq.{filled_of}
use Rattle.facet_block.specs.declared.block.Block.{Block}
use Rattle.facet_readable.specs.Blocks.{IsFilledBy}
use Rattle.facet_readable.proofs.blocks.are_filled.Given as goal

-- the blocks before this one have the layout
abbrev pub invariant-loop-i : goal.invariant-loop-i
invariant-loop-i g l = (k : ℕ) (d : Block g.row.L.Denot) → k < l.i → IsFilledBy l.layout (get_or (filled_of l.blocks) k d)

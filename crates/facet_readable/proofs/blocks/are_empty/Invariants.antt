use Rattle.std.proofs.Common.{◌≡◌, ℕ, ◌<◌, get_or}
use Rattle.facet_block.specs.Block.{empty_block}
use Rattle.facet_block.specs.Seq.{spare_of}
use Rattle.facet_block.specs.declared.block.Block.{Block}
use Rattle.facet_readable.proofs.blocks.are_empty.Given as goal

-- the spare blocks before this one are empty
abbrev pub invariant-loop-j : goal.invariant-loop-j
invariant-loop-j g l = (k : ℕ) (d : Block g.row.L.Denot) → k < l.j → get_or (spare_of l.blocks) k d ≡ empty_block l.size

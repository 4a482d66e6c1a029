-- Sequences once their last block was filled or emptied, or other blocks are the filled ones.
use Rattle.std.specs.Prelude.{ℕ, ◌-◌, List, [], ◌∷◌, ◌++◌, drop, length, take}
use Rattle.facet_block.specs.Block.{empty_block, moved_in}
use Rattle.facet_block.specs.Seq.{element_size_of, filled_of, make_seq, spare_of, with_new_spare}
use Rattle.facet_block.specs.declared.block.Block.{Block}
use Rattle.facet_block.specs.declared.block.Seq.{Seq}

module _ {X : Type 0} where
  -- the sequence with as many new blocks as its spare blocks are fewer than so many
  abbrev pub with_room : ℕ → Seq X → Seq X
  with_room n s = with_new_spare s (n - length (spare_of s))

  -- the filled and then the spare blocks
  abbrev pub all_blocks : Seq X → List (Block X)
  all_blocks s = filled_of s ++ spare_of s

  -- the sequence whose filled blocks are the first so many of all its blocks
  abbrev pub cut_at : ℕ → Seq X → Seq X
  cut_at n s = make_seq (element_size_of s) (take n (all_blocks s)) (drop n (all_blocks s))

  -- the block of so many bytes that holds what lay in as many bytes of another
  abbrev pub block_of_moved : ℕ → Block X → ℕ → Block X
  block_of_moved size source from = moved_in (empty_block size) 0 source from size

  -- the sequence with a block behind its filled ones, in place of its first spare one
  abbrev pub with_last : Seq X → Block X → Seq X
  with_last s b = make_seq (element_size_of s) (filled_of s ++ b ∷ []) (drop 1 (spare_of s))

  -- the sequence without its last filled block, and with an empty block before its spare ones
  abbrev pub without_last : Seq X → Seq X
  without_last s = make_seq (element_size_of s) (take (length (filled_of s) - 1) (filled_of s)) (empty_block (element_size_of s) ∷ spare_of s)

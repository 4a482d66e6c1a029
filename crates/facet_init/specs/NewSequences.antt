-- Sequences that are made for a container that is new.
use Rattle.std.specs.Prelude.{ℕ, [], ◌∷◌, replicate}
use Rattle.facet_block.specs.Block.{empty_block}
use Rattle.facet_block.specs.Seq.{make_seq}
use Rattle.facet_block.specs.declared.block.Block.{Block}
use Rattle.facet_block.specs.declared.block.Seq.{Seq}

module _ {X : Type 0} where
  -- the sequence whose blocks have so many bytes, with no filled block and so many spare ones
  abbrev pub spare_blocks : ℕ → ℕ → Seq X
  spare_blocks size count = make_seq size [] (replicate count (empty_block size))

  -- the sequence whose blocks have so many bytes, with this one filled block and no spare one
  abbrev pub one_block : ℕ → Block X → Seq X
  one_block size block = make_seq size (block ∷ []) []

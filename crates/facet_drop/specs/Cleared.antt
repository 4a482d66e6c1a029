-- What is left of a block in which several ranges were emptied.
use Rattle.std.specs.Prelude.{◌≡◌, ℕ, All, List}
use Rattle.facet_block.specs.Block.{item_at, size_of}
use Rattle.facet_block.specs.Span.{IsBeside, IsEmptyIn, Span}
use Rattle.facet_block.specs.declared.block.Block.{Block}

module _ {X : Type 0} where
  -- the second block is the first, but no item lies in any of the spans
  pub record AreCleared (old new : Block X) (ranges : List Span) : Type 0 where
    pub size : size_of new ≡ size_of old
    pub empty : All (IsEmptyIn new) ranges
    pub outside : (i : ℕ) → All (IsBeside i) ranges → item_at new i ≡ item_at old i

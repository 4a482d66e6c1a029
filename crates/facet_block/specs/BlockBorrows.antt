-- An item, a block or a sequence once the borrow of a part of it has ended.
use Rattle.std.specs.Prelude.{ℕ, slice_set, Option, Some}
use Rattle.std.specs.Borrow.{Lends, LendsIf, MutBor, Fml, RattleType}
use Rattle.facet_block.specs.declared.block.Item.{Item, Leaf, Sequence}
use Rattle.facet_block.specs.declared.block.Block.{Block}
use Rattle.facet_block.specs.declared.block.Seq.{Seq}
use Rattle.facet_block.specs.contracts.block.Item as item
use Rattle.facet_block.specs.contracts.block.Block as block
use Rattle.facet_block.specs.contracts.block.Seq as seq
use Rattle.facet_block.specs.Block.{with_item}
use Rattle.facet_block.specs.Seq.{filled_of, spare_of, with_filled, with_spare}

module _ (T : RattleType) where
  -- the leaf of an item is borrowed, and afterwards the item is the leaf that was left
  abbrev pub LendsLeaf : MutBor (Item T.Denot) → MutBor T.Denot → Fml
  LendsLeaf s r = Lends (item.the_row T) T s r (λ w. Leaf w)

  -- the sequence of an item is borrowed, and afterwards the item is the sequence that was left
  abbrev pub LendsSequence : MutBor (Item T.Denot) → MutBor (Seq T.Denot) → Fml
  LendsSequence s r = Lends (item.the_row T) (seq.the_row T) s r (λ w. Sequence w)

  -- the leaf at an offset is borrowed, and afterwards the block has the leaf that was left there
  abbrev pub LendsLeafAt : MutBor (Block T.Denot) → ℕ → MutBor T.Denot → Fml
  LendsLeafAt s at r = Lends (block.the_row T) T s r (λ w. with_item s.now at (Some (Leaf w)))

  -- the sequence at an offset is borrowed, and afterwards the block has the sequence that was left there
  abbrev pub LendsSequenceAt : MutBor (Block T.Denot) → ℕ → MutBor (Seq T.Denot) → Fml
  LendsSequenceAt s at r = Lends (block.the_row T) (seq.the_row T) s r (λ w. with_item s.now at (Some (Sequence w)))

  -- filled block `i` is borrowed where there is one, and afterwards the sequence has the block that was left there
  abbrev pub LendsFilled : MutBor (Seq T.Denot) → ℕ → Option (MutBor (Block T.Denot)) → Fml
  LendsFilled s i r = LendsIf (seq.the_row T) (block.the_row T) s r (λ w. with_filled s.now (slice_set (filled_of s.now) i w)) s.now

  -- spare block `j` is borrowed, and afterwards the sequence has the block that was left there
  abbrev pub LendsSpare : MutBor (Seq T.Denot) → ℕ → MutBor (Block T.Denot) → Fml
  LendsSpare s j r = Lends (seq.the_row T) (block.the_row T) s r (λ w. with_spare s.now (slice_set (spare_of s.now) j w))

-- A pointer once an item was put into its block, or once a borrow through it has ended.
use Rattle.std.specs.Prelude.{ℕ, ◌+◌, [], Some}
use Rattle.std.specs.Borrow.{Lends, MutBor, Fml, RattleType}
use Rattle.facet_block.specs.declared.block.Item.{Item, Leaf, Sequence}
use Rattle.facet_block.specs.declared.block.Block.{Block}
use Rattle.facet_block.specs.declared.block.Seq.{Seq}
use Rattle.facet_block.specs.declared.ptr_mut.PtrMut.{PtrMut}
use Rattle.facet_block.specs.contracts.block.Block as block
use Rattle.facet_block.specs.contracts.block.Seq as seq
use Rattle.facet_block.specs.contracts.ptr_mut.PtrMut as ptr
use Rattle.facet_block.specs.Block.{with_item}
use denote.Ref.{NamedLft}
use mir.Syntax.{named}

-- the first lifetime of a signature
abbrev pub first_lifetime : NamedLft
first_lifetime = record { mir = named 0; lft = [] }

-- the pointer with another value in its block
abbrev pub with_block : {X : Type 0} → PtrMut X → Block X → PtrMut X
with_block p b = record p { block = record (p.block) { now = b } }

-- the pointer whose block has this item `n` bytes past the place
abbrev pub with_item_past : {X : Type 0} → PtrMut X → ℕ → Item X → PtrMut X
with_item_past p n item = with_block p (with_item p.block.now (p.offset + n) (Some item))

module _ (T : RattleType) where
  -- the pointer's block is borrowed, and is afterwards what was left
  abbrev pub LendsPointedBlock : MutBor (PtrMut T.Denot) → MutBor (Block T.Denot) → Fml
  LendsPointedBlock s r = Lends (ptr.the_row first_lifetime T) (block.the_row T) s r (λ w. with_block s.now w)

  -- the leaf at the place is borrowed, and afterwards the pointer's block has the leaf that was left there
  abbrev pub LendsPointedLeaf : MutBor (PtrMut T.Denot) → MutBor T.Denot → Fml
  LendsPointedLeaf s r =
      Lends (ptr.the_row first_lifetime T) T s r (λ w. with_block s.now (with_item s.now.block.now s.now.offset (Some (Leaf w))))

  -- the sequence at the place is borrowed, and afterwards the pointer's block has the sequence that was left there
  abbrev pub LendsPointedSequence : MutBor (PtrMut T.Denot) → MutBor (Seq T.Denot) → Fml
  LendsPointedSequence s r =
      Lends (ptr.the_row first_lifetime T) (seq.the_row T) s r (λ w. with_block s.now (with_item s.now.block.now s.now.offset (Some (Sequence w))))

  -- the sequence `n` bytes past the place is borrowed, and afterwards the pointer's block has the sequence that was left there
  abbrev pub LendsSequencePast : MutBor (PtrMut T.Denot) → ℕ → MutBor (Seq T.Denot) → Fml
  LendsSequencePast s n r = Lends (ptr.the_row first_lifetime T) (seq.the_row T) s r (λ w. with_item_past s.now n (Sequence w))

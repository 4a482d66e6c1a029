-- Sequences of which it is known which blocks hold elements, before they read as a list.
use Rattle.std.specs.Prelude.{◌≡◌, ℕ, ◌≤◌, [], ◌∷◌, All, List, Some, drop, length, map, take}
use Rattle.facet_block.specs.Block.{size_of}
use Rattle.facet_block.specs.Seq.{element_size_of}
use Rattle.facet_block.specs.Span.{IsEmptyIn, span}
use Rattle.facet_block.specs.declared.block.Block.{Block}
use Rattle.facet_block.specs.declared.block.Item.{Sequence}
use Rattle.facet_block.specs.declared.block.Seq.{Seq}
use Rattle.facet_contain.specs.Parts.{part_shape, values_of}
use Rattle.facet_leaf.specs.LeafModel.{LeafModel}
use Rattle.facet_registry.specs.Registry.{size_at}
use Rattle.facet_shape.specs.declared.shape.Shape.{Shape}
use Rattle.facet_trees.specs.Value.{Value}
use Rattle.facet_trees.specs.declared.form.Form.TheVariants as form
use Rattle.facet_values.specs.Place.{Place, own_item, start_of}
use Rattle.facet_values.specs.Reading.{IsReadable, ReadAll}
use Rattle.facet_values.specs.Rows.{HoldsOnly}
use Rattle.facet_lists.specs.Sequences.{all_blocks}

-- the shape of the elements of a list
abbrev pub element_at : List Shape → ℕ → ℕ
element_at shapes s = part_shape shapes s form.List 0

module _ {L : Type 0} (m : LeafModel L) (shapes : List Shape) where
  -- the blocks read, one after another, as these values of a shape
  abbrev pub ReadEach : ℕ → List (Block L) → List (Value L) → Type 0
  ReadEach element blocks ws = ReadAll m shapes (map (start_of element) blocks) (values_of ws)

  -- the size of the sequence and of its blocks is that of a shape; of its filled and spare blocks each of the first n holds a value of it, and the others are empty
  pub record HoldsFirst (element n : ℕ) (blocks : Seq L) : Type 0 where
    pub element_size : element_size_of blocks ≡ size_at shapes element
    pub sizes : All (λ block. size_of block ≡ size_at shapes element) (all_blocks blocks)
    pub enough : n ≤ length (all_blocks blocks)
    pub elements : All (λ block. IsReadable m shapes (start_of element block)) (take n (all_blocks blocks))
    pub empty : All (λ block. IsEmptyIn block (span 0 (size_at shapes element))) (drop n (all_blocks blocks))

  -- the one item in the range of a place is a sequence, where it begins, whose first n blocks hold elements
  pub record HoldsSequence (n : ℕ) (p : Place L) : Type 0 where
    pub blocks : Seq L
    pub item : own_item p ≡ Some (Sequence blocks)
    pub holds : HoldsOnly m shapes p (span 0 1 ∷ [])
    pub first : HoldsFirst (element_at shapes p.shape) n blocks

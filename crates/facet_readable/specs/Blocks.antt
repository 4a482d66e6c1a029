-- The blocks of a sequence, by the layout of one.
use Rattle.std.specs.Prelude.{◌≡◌, ◌↔◌, ◌⊎◌, ℕ, ◌+◌, ◌<◌, ◌≤◌, List, All, IfSome, Option, length}
use Rattle.facet_base.specs.declared.layout.ShapeId.{ShapeId}
use Rattle.facet_block.specs.declared.block.Block.{Block}
use Rattle.facet_block.specs.declared.block.Item.{Item}
use Rattle.facet_block.specs.declared.block.Seq.{Seq}
use Rattle.facet_block.specs.Block.{empty_block, sequence_of, size_of}
use Rattle.facet_block.specs.Seq.{element_size_of, filled_of, spare_of}
use Rattle.facet_block.specs.Span.{IsBeside, IsEmptyIn, IsWithin, Span, span}
use Rattle.facet_readable.specs.declared.blocks.BlockLayout.{BlockLayout}
use Rattle.facet_shape.specs.declared.shape.Shape.{Shape}
use Rattle.facet_trees.specs.Structure.{block_body, block_size}
use Rattle.facet_trees.specs.declared.form.Form.{Form}
use Rattle.facet_values.specs.Reading.{IsLengthOf, part_spans}

-- the two ranges of a block in which no part lies
abbrev pub gap_of : BlockLayout → Span
gap_of layout = span layout.gap layout.gap_len

abbrev pub tail_of : BlockLayout → Span
tail_of layout = span layout.tail layout.tail_len

-- the layout of blocks that have one part of each of these shapes
pub record IsLayoutOf (shapes : List Shape) (ids : List ShapeId) (layout : BlockLayout) : Type 0 where
  pub size : layout.size ≡ block_size shapes ids
  pub gap_inside : layout.gap + layout.gap_len ≤ layout.size
  pub tail_inside : layout.tail + layout.tail_len ≤ layout.size
  pub beside : (i : ℕ) → i < layout.size → All (IsBeside i) (part_spans shapes (block_body shapes ids)) ↔ (IsWithin i (gap_of layout) ⊎ IsWithin i (tail_of layout))

module _ {L : Type 0} (layout : BlockLayout) where
  -- a filled block of the layout's size, in which nothing lies beside the parts
  pub record IsFilledBy (block : Block L) : Type 0 where
    pub size : size_of block ≡ layout.size
    pub gap : IsEmptyIn block (gap_of layout)
    pub tail : IsEmptyIn block (tail_of layout)

  -- a sequence of such blocks, the spare ones empty
  pub record HasBlocks (form : Form) (s : Seq L) : Type 0 where
    pub element_size : element_size_of s ≡ layout.size
    pub count : IsLengthOf form (length (filled_of s))
    pub filled : All IsFilledBy (filled_of s)
    pub spare : All (λ block. block ≡ empty_block layout.size) (spare_of s)

  -- a sequence, where the item is one, has such blocks
  abbrev pub MayHaveBlocks : Form → Option (Item L) → Type 0
  MayHaveBlocks form found = IfSome (sequence_of found) (HasBlocks form)

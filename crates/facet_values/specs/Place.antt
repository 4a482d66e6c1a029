-- A place in a block, and the shape by which it is read.
use Rattle.std.specs.Prelude.{ℕ, ◌+◌, ◌≤◌, List, map, Option, Some}
use Rattle.std.specs.List.{flat_map}
use Rattle.facet_block.specs.declared.block.Block.{Block}
use Rattle.facet_block.specs.declared.block.Item.{Item, Leaf}
use Rattle.facet_block.specs.Block.{empty_block, item_at, size_of, with_item}
use Rattle.facet_block.specs.Span.{Span, span}
use Rattle.facet_outline.specs.declared.placed_fields.PlacedField.{PlacedField}
use Rattle.facet_registry.specs.Registry.{size_at}
use Rattle.facet_shape.specs.declared.shape.Shape.{Shape}

-- the id of the shape, and the offset in bytes
pub record Place (L : Type 0) : Type 0 where
  pub shape : ℕ
  pub block : Block L
  pub offset : ℕ

-- an offset in a block, read by a shape
abbrev pub place_in : {L : Type 0} → ℕ → Block L → ℕ → Place L
place_in s block at = record { shape = s; block = block; offset = at }

-- the start of a block, read by a shape
abbrev pub start_of : {L : Type 0} → ℕ → Block L → Place L
start_of s block = place_in s block 0

-- the block of a size in bytes with a leaf at its start, and nothing else
abbrev pub leaf_block : {L : Type 0} → ℕ → L → Block L
leaf_block size x = with_item (empty_block size) 0 (Some (Leaf x))

module _ {L : Type 0} where
  -- the item where a place begins, and the one so many bytes behind
  abbrev pub own_item : Place L → Option (Item L)
  own_item p = item_at p.block p.offset

  abbrev pub item_behind : Place L → ℕ → Option (Item L)
  item_behind p i = item_at p.block (p.offset + i)

  -- the place of a part of the value at a place, and those of parts that lie side by side
  abbrev pub part_place : Place L → PlacedField → Place L
  part_place p part = place_in part.shape.0 p.block (p.offset + part.offset)

  abbrev pub part_places : Place L → List PlacedField → List (Place L)
  part_places p body = map (part_place p) body

  -- the places of the parts in blocks that have the same ones each
  abbrev pub block_places : List PlacedField → List (Block L) → List (Place L)
  block_places body blocks = flat_map (λ block. part_places (start_of 0 block) body) blocks

  module _ (shapes : List Shape) where
    -- the bytes of a place
    abbrev pub range_of : Place L → Span
    range_of p = span p.offset (size_at shapes p.shape)

    -- the range of a place lies in its block
    abbrev pub LiesInBlock : Place L → Type 0
    LiesInBlock p = p.offset + size_at shapes p.shape ≤ size_of p.block

-- Blocks as data: a block is a finite map from offsets in bytes to items. Layers above read blocks by these words
-- alone, and define by cases on an item with the patterns `Leaf x`, `Tag n` and `Sequence s` of
-- `declared.block.Item`, ended by `_`.
use Rattle.std.specs.Prelude.{ℕ, ◌+◌, List, ◌++◌, Option, None, Some, length, replicate, slice_get, slice_set, take, drop, unwrap_or}
use Rattle.facet_block.specs.declared.block.Item.{Item, Leaf, Tag, Sequence}
use Rattle.facet_block.specs.declared.block.ItemKind.{ItemKind}
use Rattle.facet_block.specs.declared.block.ItemKind.TheVariants as kind
use Rattle.facet_block.specs.declared.block.Block.{Block}
use Rattle.facet_block.specs.declared.block.Seq.{Seq}

-- what lies at each offset of a block: an item or nothing
abbrev pub items_of : {X : Type 0} → Block X → List (Option (Item X))
items_of b = b.items

-- the size of a block in bytes
abbrev pub size_of : {X : Type 0} → Block X → ℕ
size_of b = length (items_of b)

-- the item at an offset, and none where nothing lies or past the size
abbrev pub item_at : {X : Type 0} → Block X → ℕ → Option (Item X)
item_at b at = unwrap_or (slice_get (items_of b) at) None

-- which kind of item it is, and Nothing where there is none
abbrev pub item_kind : {X : Type 0} → Option (Item X) → ItemKind
item_kind (Some (Leaf x)) = kind.Leaf
item_kind (Some (Tag n)) = kind.Tag
item_kind (Some (Sequence s)) = kind.Sequence
item_kind None = kind.Nothing

-- which kind of item lies at an offset
abbrev pub item_kind_at : {X : Type 0} → Block X → ℕ → ItemKind
item_kind_at b at = item_kind (item_at b at)

-- a block of this size with no item
abbrev pub empty_block : {X : Type 0} → ℕ → Block X
empty_block size = record { items = replicate size None }

-- the block with this at an offset, an item or nothing, in place of what lay there
abbrev pub with_item : {X : Type 0} → Block X → ℕ → Option (Item X) → Block X
with_item b at o = record b { items = slice_set b.items at o }

-- the block with the first so many of these from an offset on, in place of what lay there
abbrev pub with_items : {X : Type 0} → Block X → ℕ → List (Option (Item X)) → ℕ → Block X
with_items b at os count = record b { items = take at b.items ++ take count os ++ drop (at + count) b.items }

-- the block once what lay in so many bytes of another, from an offset of that on, was moved to the offset `at`
abbrev pub moved_in : {X : Type 0} → Block X → ℕ → Block X → ℕ → ℕ → Block X
moved_in b at source from size = with_items b at (drop from (items_of source)) size

-- the block once what lay in so many bytes from an offset on was moved out
abbrev pub moved_out : {X : Type 0} → Block X → ℕ → ℕ → Block X
moved_out b from size = with_items b from (replicate size None) size

-- the leaf, where there is one
abbrev pub leaf_of : {X : Type 0} → Option (Item X) → Option X
leaf_of (Some (Leaf x)) = Some x
leaf_of _ = None

-- the tag, where there is one
abbrev pub tag_of : {X : Type 0} → Option (Item X) → Option ℕ
tag_of (Some (Tag n)) = Some n
tag_of _ = None

-- the sequence, where there is one
abbrev pub sequence_of : {X : Type 0} → Option (Item X) → Option (Seq X)
sequence_of (Some (Sequence s)) = Some s
sequence_of _ = None

-- The rows of the kinds: when a place of a shape of each kind reads as a value, without the words by which readings are defined: `seen`, `IsWhole`, and what these are made of.
use Rattle.std.specs.Prelude.{◌≡◌, ℕ, ◌+◌, ◌<◌, ◌≤◌, ◌++◌, List, [], ◌∷◌, All, None, Some, map, slice_get}
use Rattle.facet_base.specs.declared.layout.ShapeId.{ShapeId}
use Rattle.facet_base.specs.declared.scalar_type.ScalarType.{ScalarType}
use Rattle.facet_block.specs.declared.block.Item.{Leaf, Tag, Sequence}
use Rattle.facet_block.specs.declared.block.Seq.{Seq}
use Rattle.facet_block.specs.Block.{item_at, size_of}
use Rattle.facet_block.specs.Seq.{element_size_of, filled_of, spare_of}
use Rattle.facet_block.specs.Span.{IsBeside, IsEmptyIn, Span, span}
use Rattle.facet_leaf.specs.LeafModel.{LeafModel}
use Rattle.facet_desc.specs.declared.enum_type.EnumType.{EnumType}
use Rattle.facet_desc.specs.declared.variant.Variant.{Variant}
use Rattle.facet_outline.specs.Field.{placed}
use Rattle.facet_outline.specs.declared.placed_fields.PlacedField.{PlacedField}
use Rattle.facet_registry.specs.Registry.{size_at}
use Rattle.facet_shape.specs.declared.shape.Shape.{Shape}
use Rattle.facet_trees.specs.Value.{Value, Values, leaf, node, none}
use Rattle.facet_trees.specs.declared.form.Form.{Form}
use Rattle.facet_trees.specs.declared.form.Form.TheVariants as form
use Rattle.facet_values.specs.Place.{Place, block_places, own_item, part_places}
use Rattle.facet_values.specs.Reading.{ReadAll}

module _ {L : Type 0} (m : LeafModel L) (shapes : List Shape) where
  -- the range lies in the block, and no item lies in it beside the spans
  pub record HoldsOnly (p : Place L) (spans : List Span) : Type 0 where
    pub inside : p.offset + size_at shapes p.shape ≤ size_of p.block
    pub alone : (i : ℕ) → i < size_at shapes p.shape → All (IsBeside i) spans → item_at p.block (p.offset + i) ≡ None

  -- the bytes of parts, counted from where their value begins
  abbrev pub bytes_of : List PlacedField → List Span
  bytes_of body = map (λ part. span part.offset (size_at shapes part.shape.0)) body

  -- unit: no item lies in the range
  pub record IsUnitAt (p : Place L) (v : Value L) : Type 0 where
    pub holds : HoldsOnly p []
    pub value : v ≡ node form.Unit none

  -- a leaf of a kind: the one item in the range is that leaf, where the range begins
  pub record IsLeafAt (k : ScalarType) (p : Place L) (v : Value L) : Type 0 where
    pub leaf_there : L
    pub kind : m.kind leaf_there ≡ k
    pub item : own_item p ≡ Some (Leaf leaf_there)
    pub holds : HoldsOnly p (span 0 1 ∷ [])
    pub value : v ≡ leaf leaf_there

  -- parts that lie side by side, and beside them and the first spans nothing
  pub record ArePartsAt (own : List Span) (body : List PlacedField) (p : Place L) (form : Form) (v : Value L) : Type 0 where
    pub parts : Values L
    pub reads : ReadAll m shapes (part_places p body) parts
    pub holds : HoldsOnly p (own ++ bytes_of body)
    pub value : v ≡ node form parts

  -- a tag where the range begins, and these parts
  pub record IsTaggedAt (tag : ℕ) (body : List PlacedField) (p : Place L) (form : Form) (v : Value L) : Type 0 where
    pub item : own_item p ≡ Some (Tag tag)
    pub behind : ArePartsAt (span 0 1 ∷ []) body p form v

  -- the one item in the range is a sequence, where it begins. Its size and that of each of its blocks is the given one; the filled blocks read, and hold nothing beside; no spare block holds an item
  pub record IsSequenceAt (size : ℕ) (body : List PlacedField) (p : Place L) (form : Form) (parts : Values L) (v : Value L) : Type 0 where
    pub blocks : Seq L
    pub item : own_item p ≡ Some (Sequence blocks)
    pub holds : HoldsOnly p (span 0 1 ∷ [])
    pub element_size : element_size_of blocks ≡ size
    pub sizes : All (λ block. size_of block ≡ size) (filled_of blocks ++ spare_of blocks)
    pub alone : All (λ block. (i : ℕ) → i < size → All (IsBeside i) (bytes_of body) → item_at block i ≡ None) (filled_of blocks)
    pub spare : All (λ block. IsEmptyIn block (span 0 size)) (spare_of blocks)
    pub reads : ReadAll m shapes (block_places body (filled_of blocks)) parts
    pub value : v ≡ node form parts

  -- one of the variants of an enum: its index as the tag, and its fields
  pub record IsVariantAt (e : EnumType) (p : Place L) (v : Value L) : Type 0 where
    pub tag : ℕ
    pub variant : Variant
    pub found : slice_get e.variants.items tag ≡ Some variant
    pub is : IsTaggedAt tag (placed variant.body) p (form.Variant tag) v

  -- a sequence with some parts of which this holds
  pub record IsSequenceWith (Holds : Values L → Type 0) (size : ℕ) (body : List PlacedField) (p : Place L) (form : Form) (v : Value L) : Type 0 where
    pub parts : Values L
    pub holds : Holds parts
    pub is : IsSequenceAt size body p form parts v

-- a key at 0, and a value at an offset
abbrev pub pair_body : ShapeId → ShapeId → ℕ → List PlacedField
pair_body key value offset = record { shape = key; offset = 0 } ∷ record { shape = value; offset = offset } ∷ []

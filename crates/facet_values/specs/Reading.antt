-- When a place reads as a value.
use Rattle.std.specs.Prelude.{◌≡◌, ℕ, zero, suc, ◌<◌, ◌≤◌, List, [], ◌∷◌, All, Option, None, Some, length, map}
use Rattle.std.specs.Option.{option_map_or}
use Rattle.facet_base.specs.declared.layout.ShapeId.{ShapeId}
use Rattle.facet_block.specs.declared.block.Block.{Block}
use Rattle.facet_block.specs.declared.block.Item.{Item, Leaf, Sequence}
use Rattle.facet_block.specs.declared.block.Seq.{Seq}
use Rattle.facet_block.specs.Block.{empty_block, size_of, tag_of}
use Rattle.facet_block.specs.Seq.{element_size_of, filled_of, spare_of}
use Rattle.facet_block.specs.Span.{Span, IsBeside, span}
use Rattle.facet_leaf.specs.LeafModel.{LeafModel}
use Rattle.facet_outline.specs.declared.placed_fields.PlacedField.{PlacedField}
use Rattle.facet_registry.specs.Registry.{size_at}
use Rattle.facet_shape.specs.declared.shape.Shape.{Shape}
use Rattle.facet_trees.specs.Ascending.{IsInOrder}
use Rattle.facet_trees.specs.Structure.{Structure, plain, scalar, sequence, tagged, block_body, block_size, body_under, structure_at}
use Rattle.facet_trees.specs.Value.{Value, Values, depth, leaf, node, none, more}
use Rattle.facet_trees.specs.declared.form.Form.{Form}
use Rattle.facet_trees.specs.declared.form.Form.TheVariants as form
use Rattle.facet_values.specs.Place.{LiesInBlock, Place, item_behind, own_item, start_of}
use Rattle.facet_values.specs.Seen.{Seen, a_leaf, a_node, no_value, seen}

-- no item lies in so many bytes of a place beside the spans, which are counted from there
abbrev pub IsAlone : {L : Type 0} → ℕ → Place L → List Span → Type 0
IsAlone size p spans = (i : ℕ) → i < size → All (IsBeside i) spans → item_behind p i ≡ None

-- an item of the value's own, where the value begins
abbrev pub own_span : Span
own_span = span 0 1

-- a box has one filled block
abbrev pub IsLengthOf : Form → ℕ → Type 0
IsLengthOf form.Box n = n ≡ 1
IsLengthOf _ n = Unit {0}

module _ (shapes : List Shape) where
  -- the bytes of parts that lie side by side, counted from where their value begins
  abbrev pub part_spans : List PlacedField → List Span
  part_spans body = map (λ part. span part.offset (size_at shapes part.shape.0)) body

  module _ {L : Type 0} where
    -- where a value of the structure has items: its own, and those of its inline parts
    abbrev pub spans_by : Structure → Option (Item L) → List Span
    spans_by (scalar k) found = own_span ∷ []
    spans_by (plain form body) found = part_spans body
    spans_by (tagged forms bodies) found = own_span ∷ option_map_or (λ tag. part_spans (body_under bodies tag)) (tag_of found) []
    spans_by (sequence form ids) found = own_span ∷ []
    spans_by _ found = []

    -- a filled block of a sequence: it has the size of what it holds, and nothing but that lies in it
    pub record IsFilled (ids : List ShapeId) (block : Block L) : Type 0 where
      pub size : size_of block ≡ block_size shapes ids
      pub alone : IsAlone (block_size shapes ids) (start_of 0 block) (part_spans (block_body shapes ids))

    -- a sequence whose blocks hold parts of these shapes; the spare ones are empty
    pub record IsSequenceOf (form : Form) (ids : List ShapeId) (s : Seq L) : Type 0 where
      pub element_size : element_size_of s ≡ block_size shapes ids
      pub filled : All (IsFilled ids) (filled_of s)
      pub spare : All (λ block. block ≡ empty_block (block_size shapes ids)) (spare_of s)
      pub count : IsLengthOf form (length (filled_of s))

module _ {L : Type 0} (m : LeafModel L) (shapes : List Shape) where
  -- a value of the structure may begin with the item: a leaf is of the shape's kind, and a sequence has the blocks of its parts
  abbrev pub IsItemOf : Structure → Option (Item L) → Type 0
  IsItemOf (scalar k) (Some (Leaf x)) = m.kind x ≡ k
  IsItemOf (sequence form ids) (Some (Sequence s)) = IsSequenceOf shapes form ids s
  IsItemOf _ _ = Unit {0}

  -- the range lies in the block, and holds nothing but the value's own item and its parts
  pub record IsWhole (p : Place L) : Type 0 where
    pub inside : LiesInBlock shapes p
    pub alone : IsAlone (size_at shapes p.shape) p (spans_by shapes (structure_at shapes p.shape) (own_item p))
    pub item : IsItemOf (structure_at shapes p.shape) (own_item p)

  abbrev mutual
    -- a leaf, or a form and parts, each of which its place reads as; the keys of a map and the items of a set ascend
    pub Reads : Place L → Value L → Type 0
    Reads p (leaf x) = IsWhole p × (seen shapes p ≡ a_leaf x)
    Reads p (node form vs) =
        (parts : List (Place L)) × IsWhole p × (seen shapes p ≡ a_node form parts) × ReadAll parts vs × IsInOrder m shapes (structure_at shapes p.shape) vs

    -- each place reads as the value that stands at its turn
    pub ReadAll : List (Place L) → Values L → Type 0
    ReadAll [] none = Unit {0}
    ReadAll (p ∷ ps) (more v vs) = Reads p v × ReadAll ps vs
    ReadAll _ _ = ⊥

  -- the place reads as some value of so many levels at most
  pub record IsReadableWithin (levels : ℕ) (p : Place L) : Type 0 where
    pub value : Value L
    pub reads : Reads p value
    pub shallow : depth value ≤ levels

  -- the place reads as some value that operations may go into
  abbrev pub IsReadable : Place L → Type 0
  IsReadable p = IsReadableWithin 100 p

-- the value that a place is seen as, given those of the places of its parts
abbrev pub values_by : {L : Type 0} → (Place L → Value L) → List (Place L) → Values L
values_by value [] = none
values_by value (p ∷ ps) = more (value p) (values_by value ps)

abbrev pub value_by : {L : Type 0} → (Place L → Value L) → Seen L → Value L
value_by value no_value = node form.Unit none
value_by value (a_leaf x) = leaf x
value_by value (a_node form parts) = node form (values_by value parts)

-- the value of so many levels at most that a place reads as, where there is one
unfoldable pub value_at : {L : Type 0} → List Shape → ℕ → Place L → Value L
value_at shapes zero p = node form.Unit none
value_at shapes (suc levels) p = value_by (value_at shapes levels) (seen shapes p)

-- the second place has the shape of the first, holds the same in its range, and its range lies in its block
pub record HoldsSame {L : Type 0} (shapes : List Shape) (p q : Place L) : Type 0 where
  pub shape : p.shape ≡ q.shape
  pub items : (i : ℕ) → i < size_at shapes p.shape → item_behind q i ≡ item_behind p i
  pub inside : LiesInBlock shapes q

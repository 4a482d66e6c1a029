-- How the values of a shape are made up. This file alone goes by the kinds: readings, orders and walks go by the five structures.
use Rattle.std.specs.Prelude.{ℕ, zero, suc, List, [], ◌∷◌, ◌++◌, map, slice_get, unwrap_or}
use Rattle.std.specs.Option.{option_map_or}
use Rattle.facet_base.specs.declared.layout.ShapeId.{ShapeId}
use Rattle.facet_base.specs.declared.scalar_type.ScalarType.{ScalarType}
use Rattle.facet_causes.specs.Arrangement.{arrangements, part_at}
use Rattle.facet_causes.specs.Reading.{element_of, indices, kind_in}
use Rattle.facet_outline.specs.Layout.{pair_layout, value_offset}
use Rattle.facet_outline.specs.Part.{parts}
use Rattle.facet_outline.specs.declared.placed_fields.PlacedField.{PlacedField}
use Rattle.facet_outline.specs.declared.value_kind.ValueKind.{ValueKind}
use Rattle.facet_outline.specs.declared.value_kind.ValueKind.TheVariants as kind
use Rattle.facet_shape.specs.declared.shape.Shape.{Shape}
use Rattle.facet_trees.specs.declared.form.Form.{Form}
use Rattle.facet_trees.specs.declared.form.Form.TheVariants as form

pub data Structure : Type 0 where
  -- there are no values
  no_values : Structure
  -- a leaf of a kind
  scalar : ScalarType → Structure
  -- inline parts that lie side by side, and nothing else
  plain : Form → List PlacedField → Structure
  -- a tag, which says of what form the value is, and which of the lists of inline parts lies behind it
  tagged : (ℕ → Form) → List (List PlacedField) → Structure
  -- a sequence, each block of which has one part of each of these shapes
  sequence : Form → List ShapeId → Structure

-- the form of an option under a tag, and that of a result
abbrev pub option_form : ℕ → Form
option_form zero = form.Absent
option_form (suc _) = form.Present

abbrev pub result_form : ℕ → Form
result_form zero = form.Ok
result_form (suc _) = form.Err

-- the tag of the values of a form; without one it is 0
abbrev pub tag_of_form : Form → ℕ
tag_of_form (form.Variant k) = k
tag_of_form form.Present = 1
tag_of_form form.Err = 1
tag_of_form _ = 0

-- the list of parts under a tag, which is empty where there is none
abbrev pub body_under : List (List PlacedField) → ℕ → List PlacedField
body_under bodies tag = unwrap_or (slice_get bodies tag) []

-- n items of a list, one after another and over again
abbrev pub in_turn : {A : Type 0} → List A → ℕ → List A
in_turn [] n = []
in_turn (x ∷ xs) zero = []
in_turn (x ∷ xs) (suc n) = x ∷ in_turn (xs ++ x ∷ []) n

-- the shapes of the n parts of a value of the form
abbrev pub part_shapes : Structure → Form → ℕ → List ℕ
part_shapes (plain _ body) form n = map (λ part. part.shape.0) body
part_shapes (tagged _ bodies) form n = map (λ part. part.shape.0) (body_under bodies (tag_of_form form))
part_shapes (sequence _ ids) form n = in_turn (indices ids) n
part_shapes _ form n = []

module _ (shapes : List Shape) where
  -- the structure of the values of a kind
  abbrev pub structure_of_kind : ValueKind → Shape → Structure
  structure_of_kind kind.Unit shape = plain form.Unit []
  structure_of_kind (kind.Leaf k) shape = scalar k
  structure_of_kind kind.Struct shape = plain form.Record (body_under (arrangements shapes shape) 0)
  structure_of_kind kind.Array shape = plain form.Array (body_under (arrangements shapes shape) 0)
  structure_of_kind kind.Enum shape = tagged form.Variant (arrangements shapes shape)
  structure_of_kind kind.Option shape = tagged option_form (arrangements shapes shape)
  structure_of_kind kind.Result shape = tagged result_form (arrangements shapes shape)
  structure_of_kind kind.List shape = sequence form.List (parts (element_of shapes shape.def) shape)
  structure_of_kind kind.BoxedSlice shape = sequence form.BoxedSlice (parts (element_of shapes shape.def) shape)
  structure_of_kind kind.Map shape = sequence form.Map (parts (element_of shapes shape.def) shape)
  structure_of_kind kind.Set shape = sequence form.Set (parts (element_of shapes shape.def) shape)
  structure_of_kind kind.Box shape = sequence form.Box (parts (element_of shapes shape.def) shape)
  structure_of_kind kind.NoValue shape = no_values

  -- that of the values of the shape under an id
  unfoldable pub structure_at : ℕ → Structure
  structure_at s = option_map_or (λ shape. structure_of_kind (kind_in shapes shape) shape) (slice_get shapes s) no_values

  -- where the parts lie in a block of a sequence: a single one at 0, or a key at 0 and its value behind it
  abbrev pub block_body : List ShapeId → List PlacedField
  block_body (part ∷ []) = record { shape = part; offset = 0 } ∷ []
  block_body (key ∷ value ∷ []) = record { shape = key; offset = 0 } ∷ record { shape = value; offset = value_offset (part_at shapes key) (part_at shapes value) } ∷ []
  block_body _ = []

  -- how many bytes such a block has
  abbrev pub block_size : List ShapeId → ℕ
  block_size (part ∷ []) = (part_at shapes part).size
  block_size (key ∷ value ∷ []) = (pair_layout (part_at shapes key) (part_at shapes value)).size
  block_size _ = 0

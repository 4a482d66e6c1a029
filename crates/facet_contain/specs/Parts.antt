-- The parts of the value that lies in a container, and pointers to where they lie.
use Rattle.std.specs.Prelude.{ℕ, suc, ◌<◌, Bool, true, false, List, [], ◌∷◌, Option, None, Some, length, slice_get, unwrap_or}
use Rattle.facet_block.specs.declared.ptr_const.PtrConst.{PtrConst}
use Rattle.facet_leaf.specs.LeafModel.{LeafModel}
use Rattle.facet_shape.specs.declared.shape.Shape.{Shape}
use Rattle.facet_trees.specs.Structure.{part_shapes, structure_at}
use Rattle.facet_trees.specs.Value.{Value, Values, leaf, listed, more, node, none}
use Rattle.facet_trees.specs.declared.form.Form.{Form}
use Rattle.facet_trees.specs.declared.form.Form.TheVariants as form
use Rattle.facet_values.specs.Place.{place_in}
use Rattle.facet_values.specs.Reading.{IsReadable, Reads}

module _ {L : Type 0} where
  -- the parts of a value, in order
  abbrev pub parts_of : Value L → List (Value L)
  parts_of (leaf x) = []
  parts_of (node form parts) = listed parts

  -- a list of values as parts
  abbrev pub values_of : List (Value L) → Values L
  values_of [] = none
  values_of (v ∷ vs) = more v (values_of vs)

  -- an option that holds a value
  abbrev pub is_present : Value L → Bool
  is_present (node form.Present parts) = true
  is_present _ = false

  -- a result that is Ok, and one that is an error
  abbrev pub is_ok : Value L → Bool
  is_ok (node form.Ok parts) = true
  is_ok _ = false

  abbrev pub is_err : Value L → Bool
  is_err (node form.Err parts) = true
  is_err _ = false

  -- the index of the variant that a value of an enum is of
  abbrev pub variant_in : Value L → Option ℕ
  variant_in (node (form.Variant k) parts) = Some k
  variant_in _ = None

  -- the first part on a condition, and none without it
  abbrev pub first_part_if : Bool → Value L → Option (Value L)
  first_part_if true v = slice_get (parts_of v) 0
  first_part_if false v = None

-- the shape of the part with an index of the values of a form
abbrev pub part_shape : List Shape → ℕ → Form → ℕ → ℕ
part_shape shapes s form i = unwrap_or (slice_get (part_shapes (structure_at shapes s) form (suc i)) i) 0

module _ {L : Type 0} (m : LeafModel L) (shapes : List Shape) (id : ℕ) where
  -- a pointer to where the part lies, read by the shape under the id, and none where there is no part
  abbrev pub Points : Option (Value L) → Option (PtrConst L) → Type 0
  Points (Some part) (Some q) = Reads m shapes (place_in id q.block.now q.offset) part
  Points None None = Unit {0}
  Points _ _ = ⊥

  -- the shape is sealed, and a value of it lies where the pointer points: what calls require of a place
  pub record LeadsToValue (q : PtrConst L) : Type 0 where
    pub sealed : id < length shapes
    pub readable : IsReadable m shapes (place_in id q.block.now q.offset)

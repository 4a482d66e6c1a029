-- What is cloned of the value that is seen at a place.
use Rattle.std.specs.Prelude.{◌≡◌, ℕ, List, Some, slice_get}
use Rattle.facet_block.specs.declared.block.Item.{Tag}
use Rattle.facet_leaf.specs.LeafModel.{LeafModel}
use Rattle.facet_make.specs.Clone.{clone_case}
use Rattle.facet_make.specs.Made.{Made}
use Rattle.facet_make.specs.declared.cloning.Cloning.{Cloning}
use Rattle.facet_make.specs.declared.cloning.Cloning.TheVariants as cloning
use Rattle.facet_outline.specs.declared.placed_fields.PlacedField.{PlacedField}
use Rattle.facet_shape.specs.declared.shape.Shape.{Shape}
use Rattle.facet_trees.specs.Structure.{tagged, structure_at}
use Rattle.facet_trees.specs.Value.{Value}
use Rattle.facet_trees.specs.declared.form.Form.{Form}
use Rattle.facet_trees.specs.declared.form.Form.TheVariants as form
use Rattle.facet_values.specs.Place.{Place, own_item, part_place}
use Rattle.facet_values.specs.Reading.{value_at}

-- by the form
abbrev pub cloning_of : Form → Cloning
cloning_of form.Unit = cloning.Parts
cloning_of form.Record = cloning.Parts
cloning_of form.Array = cloning.Parts
cloning_of (form.Variant k) = cloning.TagAndParts k
cloning_of _ = cloning.Nothing

module _ {L : Type 0} (m : LeafModel L) (shapes : List Shape) where
  -- the clone of an inline part of the value at a place, read with so many levels at most
  abbrev pub part_clone : ℕ → Place L → PlacedField → Made (Value L) L
  part_clone levels p part = clone_case m shapes part.shape.0 (value_at shapes levels (part_place p part))

module _ {L : Type 0} (shapes : List Shape) where
  -- a tag lies at the place, and stands for a form and inline parts
  pub record HasTag (p : Place L) (tag : ℕ) : Type 0 where
    pub forms : ℕ → Form
    pub bodies : List (List PlacedField)
    pub body : List PlacedField
    pub of : structure_at shapes p.shape ≡ tagged forms bodies
    pub there : slice_get bodies tag ≡ Some body
    pub form_is : forms tag ≡ form.Variant tag
    pub item : own_item p ≡ Some (Tag tag)

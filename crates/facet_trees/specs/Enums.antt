-- The values of an enum.
use Rattle.std.specs.Prelude.{◌≡◌, ℕ, List, Some, map, slice_get}
use Rattle.facet_desc.specs.declared.enum_type.EnumType.{EnumType}
use Rattle.facet_desc.specs.declared.variant.Variant.{Variant}
use Rattle.facet_leaf.specs.LeafModel.{LeafModel}
use Rattle.facet_shape.specs.declared.shape.Shape.{Shape}
use Rattle.facet_trees.specs.Fits.{AllFit}
use Rattle.facet_trees.specs.Value.{Value, Values, node}
use Rattle.facet_trees.specs.declared.form.Form.TheVariants as form

-- the value is of one of the variants, and has a part for each field of it
pub record IsOfVariant {L : Type 0} (m : LeafModel L) (shapes : List Shape) (e : EnumType) (v : Value L) : Type 0 where
  pub index : ℕ
  pub variant : Variant
  pub parts : Values L
  pub there : slice_get e.variants.items index ≡ Some variant
  pub is : v ≡ node (form.Variant index) parts
  pub fit : AllFit m shapes (map (λ field. field.shape.0) variant.body.fields.items) parts

-- The variants of an enum, and the fields that lie behind the tag of one of them.
use Rattle.std.specs.Prelude.{◌≡◌, ℕ, All, List, [], slice_get}
use Rattle.std.specs.Option.{option_map_or}
use Rattle.facet_block.specs.Block.{item_at, size_of}
use Rattle.facet_block.specs.Span.{IsBeside}
use Rattle.facet_block.specs.declared.block.Block.{Block}
use Rattle.facet_desc.specs.declared.ty.Ty.{Ty}
use Rattle.facet_desc.specs.declared.ty.Ty.TheVariants as ty
use Rattle.facet_desc.specs.declared.ty.UserType.TheVariants as user
use Rattle.facet_desc.specs.declared.variant.Variant.{Variant}
use Rattle.facet_leaf.specs.LeafModel.{LeafModel}
use Rattle.facet_outline.specs.declared.placed_fields.PlacedField.{PlacedField}
use Rattle.facet_shape.specs.declared.shape.Shape.{Shape}
use Rattle.facet_trees.specs.Value.{Values}
use Rattle.facet_values.specs.Place.{Place, part_place, part_places, place_in, range_of}
use Rattle.facet_values.specs.Reading.{ReadAll}

-- the variants of an enum's type
abbrev pub variants_of : Ty → List Variant
variants_of (ty.User (user.Enum e)) = e.variants.items
variants_of _ = []

-- those of the shape under an id
abbrev pub variants_at : List Shape → ℕ → List Variant
variants_at shapes s = option_map_or (λ shape. variants_of shape.ty) (slice_get shapes s) []

-- a block differs from that of a place in the ranges of these fields alone, and each field reads as the value at its turn
pub record HasFields {L : Type 0} (m : LeafModel L) (shapes : List Shape) (fields : List PlacedField) (p : Place L) (later : Block L) (vs : Values L) : Type 0 where
  pub size : size_of later ≡ size_of p.block
  pub outside : (i : ℕ) → All (λ field. IsBeside i (range_of shapes (part_place p field))) fields → item_at later i ≡ item_at p.block i
  pub reads : ReadAll m shapes (part_places (place_in p.shape later p.offset) fields) vs

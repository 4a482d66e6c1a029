-- Where the fields of a struct or of a variant lie.
use Rattle.std.specs.Prelude.{ℕ, ◌+◌, ◌%◌, ◌==◌, ◌&&◌, ◌||◌, Bool, false, not, List, [], ◌∷◌, map, nat_lt}
use Rattle.std.specs.List.{flat_map, list_any}
use Rattle.facet_base.specs.declared.layout.ShapeId.{ShapeId}
use Rattle.facet_base.specs.declared.layout.ShapeLayout.{ShapeLayout}
use Rattle.facet_desc.specs.declared.struct_type.StructType.{StructType}
use Rattle.facet_desc.specs.declared.ty.Ty.{Ty}
use Rattle.facet_desc.specs.declared.ty.Ty.TheVariants as ty
use Rattle.facet_desc.specs.declared.ty.UserType.TheVariants as user
use Rattle.facet_graph.specs.declared.overlap.Span.{Span}
use Rattle.facet_outline.specs.Discriminant.{tag_width}
use Rattle.facet_outline.specs.Layout.{part_layout}
use Rattle.facet_outline.specs.declared.placed_fields.PlacedField.{PlacedField}
use Rattle.facet_outline.specs.declared.value_kind.ValueKind.{ValueKind}
use Rattle.facet_outline.specs.declared.value_kind.ValueKind.TheVariants as kind

-- the fields of a struct with their offsets
abbrev pub placed : StructType → List PlacedField
placed s = map (λ f. record { shape = f.shape; offset = f.offset }) s.fields.items

-- the fields of the values of a kind: those of a struct, or of all variants of an enum
abbrev pub placed_fields : ValueKind → Ty → List PlacedField
placed_fields kind.Struct (ty.User (user.Struct s)) = placed s
placed_fields kind.Enum (ty.User (user.Enum e)) = flat_map (λ v. placed v.body) e.variants.items
placed_fields _ _ = []

-- the lists of fields that lie side by side in one value: that of a struct, or one for each variant of an enum
abbrev pub bodies : ValueKind → Ty → List (List PlacedField)
bodies kind.Struct (ty.User (user.Struct s)) = placed s ∷ []
bodies kind.Enum (ty.User (user.Enum e)) = map (λ v. placed v.body) e.variants.items
bodies _ _ = []

-- how many bytes the tag takes, at offset 0: none where there is no tag
abbrev pub tag_bytes : ValueKind → Ty → ℕ
tag_bytes kind.Enum (ty.User (user.Enum e)) = tag_width e.enum_repr
tag_bytes _ _ = 0

-- it is a packed struct
abbrev pub is_packed_struct : ValueKind → Ty → Bool
is_packed_struct kind.Struct (ty.User (user.Struct s)) = s.repr.packed
is_packed_struct _ _ = false

module _ (layouts : ShapeId → ShapeLayout) where
  -- the bytes of a field
  abbrev pub span_of : PlacedField → Span
  span_of f = record { offset = f.offset; size = (part_layout (layouts f.shape)).size }

  -- the bytes of the tag and those of the fields, of fields that lie side by side
  abbrev pub spans_of : ℕ → List PlacedField → List Span
  spans_of tag body = record { offset = 0; size = tag } ∷ map span_of body

  -- a field ends behind so many bytes
  abbrev pub ends_behind : ℕ → PlacedField → Bool
  ends_behind size f = nat_lt size (f.offset + (part_layout (layouts f.shape)).size)

  -- a field or the tag ends behind the size
  abbrev pub has_field_outside : ValueKind → Ty → ℕ → Bool
  has_field_outside k t size = list_any (ends_behind size) (placed_fields k t) || nat_lt size (tag_bytes k t)

  -- the offset of a field is no multiple of its alignment
  abbrev pub is_misaligned : PlacedField → Bool
  is_misaligned f = not (f.offset % (part_layout (layouts f.shape)).align == 0)

  -- some field is misaligned, and they aren't packed
  abbrev pub has_field_misaligned : ValueKind → Ty → Bool
  has_field_misaligned k t = not (is_packed_struct k t) && list_any is_misaligned (placed_fields k t)

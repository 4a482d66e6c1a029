-- The types of what the makers make.
use Rattle.std.specs.Prelude.{ℕ, ◌+◌, List, [], ◌∷◌, ◌++◌, false, Some, codes, fold, length, max, pos, if◌then◌else◌, ◌==◌}
use Rattle.std.specs.Fmt.{decimal}
use Rattle.facet_base.specs.Many.{of_items}
use Rattle.facet_base.specs.declared.layout.Layout.{Layout}
use Rattle.facet_base.specs.declared.layout.ShapeId.{ShapeId}
use Rattle.facet_desc.specs.Field.{fresh_field}
use Rattle.facet_desc.specs.Variant.{fresh_variant}
use Rattle.facet_desc.specs.StructType.{unit_struct}
use Rattle.facet_desc.specs.declared.field.Field.{Field}
use Rattle.facet_desc.specs.declared.repr.BaseRepr.TheVariants as base
use Rattle.facet_desc.specs.declared.repr.EnumRepr.TheVariants as width
use Rattle.facet_desc.specs.declared.repr.Repr.{Repr}
use Rattle.facet_desc.specs.declared.struct_type.StructKind.{StructKind}
use Rattle.facet_desc.specs.declared.struct_type.StructKind.TheVariants as struct_kind
use Rattle.facet_desc.specs.declared.struct_type.StructType.{StructType}
use Rattle.facet_desc.specs.declared.ty.Ty.{Ty}
use Rattle.facet_desc.specs.declared.ty.Ty.TheVariants as ty
use Rattle.facet_desc.specs.declared.ty.UserType.TheVariants as user
use Rattle.facet_desc.specs.declared.variant.Variant.{Variant}
use Rattle.facet_outline.specs.Layout.{next_offset, option_offset}

-- an opaque type
abbrev pub opaque : Ty
opaque = ty.User user.Opaque

-- the representation that Rust chooses
abbrev pub rust_repr : Repr
rust_repr = record { base = base.Rust; packed = false }

-- a struct of this kind in it
abbrev pub rust_struct : StructKind → List Field → StructType
rust_struct k fields = record { repr = rust_repr; kind = k; fields = of_items fields }

-- `None`, of discriminant 0
abbrev pub none_variant : Variant
none_variant = record (fresh_variant (codes "None") unit_struct) { discriminant = Some (pos 0) }

-- `Some`, of discriminant 1, with one field
abbrev pub some_variant : ShapeId → Layout → Variant
some_variant t part =
    record (fresh_variant (codes "Some") (rust_struct struct_kind.TupleStruct (fresh_field (codes "0") t (option_offset part) ∷ []))) {
      discriminant = Some (pos 1);
    }

-- an option
unfoldable pub option_type : ShapeId → Layout → Ty
option_type t part =
    ty.User (user.Enum (record {
      repr = rust_repr;
      enum_repr = width.Rust;
      variants = of_items (none_variant ∷ some_variant t part ∷ []);
      is_cow = false;
    }))

-- the fields of a tuple, where the last one ends, and the greatest alignment of their shapes
pub record TupleParts : Type 0 where
  pub fields : List Field
  pub end : ℕ
  pub align : ℕ

-- the tuple without fields
abbrev pub no_parts : TupleParts
no_parts = record { fields = []; end = 0; align = 1 }

-- one field more, named by its index, at the next offset of its alignment
abbrev pub with_part : TupleParts → ShapeId → Layout → TupleParts
with_part tuple t part =
    record {
      fields = tuple.fields ++ fresh_field (decimal (length tuple.fields)) t (next_offset tuple.end part) ∷ [];
      end = next_offset tuple.end part + part.size;
      align = max tuple.align part.align;
    }

-- the tuple of these shapes, in order, whose layouts `part` says
abbrev pub tuple_parts : (ShapeId → Layout) → List ShapeId → TupleParts
tuple_parts part ids = fold (λ tuple t. with_part tuple t (part t)) no_parts ids

-- a tuple of these fields
abbrev pub tuple_type : List Field → Ty
tuple_type fields = ty.User (user.Struct (rust_struct struct_kind.Tuple fields))

-- `…`, in UTF-8
abbrev pub ellipsis : List ℕ
ellipsis = 226 ∷ 128 ∷ 166 ∷ []

-- how the identifier of a tuple of so many parts is written
abbrev pub tuple_identifier : ℕ → List ℕ
tuple_identifier count = if count == 1 then codes "(_,)" else codes "(" ++ ellipsis ++ codes ")"

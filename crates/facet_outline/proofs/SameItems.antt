-- What is read off a shape depends on the items of its lists alone.
use Rattle.std.proofs.Common.{◌≡◌, ℕ, ◌+◌, pos, unwrap_or, List, [], ◌∷◌, ◌++◌, Option, None, Some, if◌then◌else◌, refl, ap, ◌∙◌, map}
use Rattle.std.specs.List.{flat_map}
use Rattle.std.specs.Option.{option_to_list}
use Rattle.facet_base.specs.declared.layout.ShapeId.{ShapeId}
use Rattle.facet_base.specs.declared.scalar_type.ScalarType.{ScalarType}
use Rattle.facet_base.specs.declared.scalar_type.ScalarType.TheVariants as scalar
use Rattle.facet_def.specs.declared.def.Def.{Def}
use Rattle.facet_def.specs.declared.def.Def.TheVariants as def
use Rattle.facet_desc.specs.WithoutSpare.{enum_without_spare, field_without_spare, struct_without_spare, ty_without_spare, variant_without_spare}
use Rattle.facet_desc.specs.declared.enum_type.EnumType.{EnumType}
use Rattle.facet_desc.specs.declared.field.Field.{Field}
use Rattle.facet_desc.specs.declared.pointer.PointerType.TheVariants as pointer
use Rattle.facet_desc.specs.declared.struct_type.StructType.{StructType}
use Rattle.facet_desc.specs.declared.ty.Ty.{Ty}
use Rattle.facet_desc.specs.declared.ty.Ty.TheVariants as ty
use Rattle.facet_desc.specs.declared.ty.UserType.TheVariants as user
use Rattle.facet_desc.specs.declared.variant.Variant.{Variant}
use Rattle.facet_outline.specs.Discriminant.{discriminants, discriminants_from, discriminants_of_kind, repr_of_kind, tag_width}
use Rattle.facet_outline.specs.Field.{bodies, is_packed_struct, placed, placed_fields, tag_bytes}
use Rattle.facet_outline.specs.Part.{fields_of_type, inline_parts, inline_parts_of_kind, parts, parts_of_kind}
use Rattle.facet_outline.specs.References.{eager_references, fields_of_enum, fields_of_other, fields_of_struct, fields_of_tuple, height_references, is_tuple, other_references, part_references, parts_of_def, parts_of_type, proxies_of, references, shapes_in, strong_of_def, weak_of_def}
use Rattle.facet_outline.specs.ValueKind.{kind_by_def, kind_by_scalar, kind_by_type, kind_of}
use Rattle.facet_outline.specs.declared.placed_fields.PlacedField.{PlacedField}
use Rattle.facet_outline.specs.declared.value_kind.ValueKind.{ValueKind}
use Rattle.facet_outline.specs.declared.value_kind.ValueKind.TheVariants as kind
use Rattle.facet_shape.specs.WithoutSpare.{shape_without_spare}
use Rattle.facet_shape.specs.declared.shape.Shape.{Shape}

fields_same : (fields : List Field) → map (λ f. f.shape) (map field_without_spare fields) ≡ map (λ f. f.shape) fields
unfolding field_without_spare
fields_same [] = refl
fields_same (f ∷ fields) = ap (λ ids. f.shape ∷ ids) (fields_same fields)

pub struct_same : (s : StructType) → fields_of_struct (struct_without_spare s) ≡ fields_of_struct s
unfolding struct_without_spare
struct_same s = fields_same s.fields.items

body_same : (v : Variant) → fields_of_struct (variant_without_spare v).body ≡ fields_of_struct v.body
unfolding variant_without_spare
body_same v = struct_same v.body

variants_same : (variants : List Variant) → flat_map (λ v. fields_of_struct v.body) (map variant_without_spare variants) ≡ flat_map (λ v. fields_of_struct v.body) variants
variants_same [] = refl
variants_same (v ∷ variants) = λ i. body_same v i ++ variants_same variants i

enum_same : (e : EnumType) → fields_of_enum (enum_without_spare e) ≡ fields_of_enum e
unfolding enum_without_spare
enum_same e = variants_same e.variants.items

pub struct_kind_same : (s : StructType) → (struct_without_spare s).kind ≡ s.kind
unfolding struct_without_spare
struct_kind_same s = refl

type_fields_same : (t : Ty) → fields_of_type (ty_without_spare t) ≡ fields_of_type t
type_fields_same (ty.User (user.Struct s)) = struct_same s
type_fields_same (ty.User (user.Enum e)) = enum_same e
type_fields_same _ = refl

tuple_fields_same : (t : Ty) → fields_of_tuple (ty_without_spare t) ≡ fields_of_tuple t
tuple_fields_same (ty.User (user.Struct s)) = λ i. if is_tuple (struct_kind_same s i) then struct_same s i else []
tuple_fields_same _ = refl

other_fields_same : (t : Ty) → fields_of_other (ty_without_spare t) ≡ fields_of_other t
other_fields_same (ty.User (user.Struct s)) = λ i. if is_tuple (struct_kind_same s i) then [] else struct_same s i
other_fields_same (ty.User (user.Enum e)) = enum_same e
other_fields_same _ = refl

type_parts_same : (t : Ty) → parts_of_type (ty_without_spare t) ≡ parts_of_type t
type_parts_same (ty.Pointer (pointer.Function f)) = refl
type_parts_same (ty.Pointer _) = refl
type_parts_same _ = refl

kind_by_type_same : (t : Ty) → kind_by_type (ty_without_spare t) ≡ kind_by_type t
kind_by_type_same (ty.User (user.Struct s)) = refl
kind_by_type_same (ty.User (user.Enum e)) = refl
kind_by_type_same _ = refl

kind_by_def_same : (element : Option ShapeId) (d : Def) (t : Ty) → kind_by_def element d (ty_without_spare t) ≡ kind_by_def element d t
kind_by_def_same element def.Undefined t = kind_by_type_same t
kind_by_def_same element _ t = refl

kind_by_scalar_same : (of : Option ScalarType) (element : Option ShapeId) (d : Def) (t : Ty) → kind_by_scalar of element d (ty_without_spare t) ≡ kind_by_scalar of element d t
kind_by_scalar_same (Some scalar.Unit) element d t = refl
kind_by_scalar_same (Some scalar.Str) element d t = kind_by_def_same element d t
kind_by_scalar_same (Some _) element d t = refl
kind_by_scalar_same None element d t = kind_by_def_same element d t

inline_parts_of_kind_same : (k : ValueKind) (d : Def) (t : Ty) → inline_parts_of_kind k d (ty_without_spare t) ≡ inline_parts_of_kind k d t
inline_parts_of_kind_same kind.Struct d t = type_fields_same t
inline_parts_of_kind_same kind.Enum d t = type_fields_same t
inline_parts_of_kind_same _ d t = refl

parts_of_kind_same : (k : ValueKind) (element : Option ShapeId) (d : Def) (t : Ty) → parts_of_kind k element d (ty_without_spare t) ≡ parts_of_kind k element d t
parts_of_kind_same kind.Struct element d t = type_fields_same t
parts_of_kind_same kind.Enum element d t = type_fields_same t
parts_of_kind_same _ element d t = refl

-- the kind of its values
pub kind_same : (element : Option ShapeId) (s : Shape) → kind_of element (shape_without_spare s) ≡ kind_of element s
kind_same element s = kind_by_scalar_same s.scalar element s.def s.ty

-- its parts
pub inline_parts_same : (element : Option ShapeId) (s : Shape) → inline_parts element (shape_without_spare s) ≡ inline_parts element s
unfolding inline_parts
inline_parts_same element s =
    ap (λ k. inline_parts_of_kind k s.def (ty_without_spare s.ty)) (kind_same element s) ∙ inline_parts_of_kind_same (kind_of element s) s.def s.ty

pub parts_same : (element : Option ShapeId) (s : Shape) → parts element (shape_without_spare s) ≡ parts element s
unfolding parts
parts_same element s = ap (λ k. parts_of_kind k element s.def (ty_without_spare s.ty)) (kind_same element s) ∙ parts_of_kind_same (kind_of element s) element s.def s.ty

-- what it refers to
part_references_same : (s : Shape) → part_references (shape_without_spare s) ≡ part_references s
unfolding part_references
part_references_same s = λ i. parts_of_def s.def ++ strong_of_def s.def ++ type_parts_same s.ty i ++ tuple_fields_same s.ty i

pub height_references_same : (s : Shape) → height_references (shape_without_spare s) ≡ height_references s
unfolding height_references
height_references_same s =
    ap (λ ids. map (λ p. p.shape) s.type_params.items ++ ids ++ option_to_list s.inner ++ option_to_list s.builder_shape ++ proxies_of s) (part_references_same s)

pub eager_references_same : (s : Shape) → eager_references (shape_without_spare s) ≡ eager_references s
unfolding eager_references
eager_references_same s = ap (λ ids. ids ++ map (λ d. d.shape) s.variance.deps.items) (height_references_same s)

other_references_same : (s : Shape) → other_references (shape_without_spare s) ≡ other_references s
unfolding other_references
other_references_same s = ap (λ ids. ids ++ weak_of_def s.def ++ flat_map (λ a. shapes_in a.payload) s.attributes.items) (other_fields_same s.ty)

pub references_same : (s : Shape) → references (shape_without_spare s) ≡ references s
unfolding references
references_same s = λ i. eager_references_same s i ++ other_references_same s i

place : Field → PlacedField
place f = record { shape = f.shape; offset = f.offset }

placed_items_same : (fields : List Field) → map place (map field_without_spare fields) ≡ map place fields
unfolding field_without_spare place
placed_items_same [] = refl
placed_items_same (f ∷ fields) = ap (λ rest. place f ∷ rest) (placed_items_same fields)

placed_same : (s : StructType) → placed (struct_without_spare s) ≡ placed s
unfolding struct_without_spare place
placed_same s = placed_items_same s.fields.items

placed_body_same : (v : Variant) → placed (variant_without_spare v).body ≡ placed v.body
unfolding variant_without_spare
placed_body_same v = placed_same v.body

all_placed_same : (variants : List Variant) → flat_map (λ v. placed v.body) (map variant_without_spare variants) ≡ flat_map (λ v. placed v.body) variants
all_placed_same [] = refl
all_placed_same (v ∷ variants) = λ i. placed_body_same v i ++ all_placed_same variants i

bodies_of_variants_same : (variants : List Variant) → map (λ v. placed v.body) (map variant_without_spare variants) ≡ map (λ v. placed v.body) variants
bodies_of_variants_same [] = refl
bodies_of_variants_same (v ∷ variants) = λ i. placed_body_same v i ∷ bodies_of_variants_same variants i

enum_placed_same : (e : EnumType) → flat_map (λ v. placed v.body) (enum_without_spare e).variants.items ≡ flat_map (λ v. placed v.body) e.variants.items
unfolding enum_without_spare
enum_placed_same e = all_placed_same e.variants.items

enum_bodies_same : (e : EnumType) → map (λ v. placed v.body) (enum_without_spare e).variants.items ≡ map (λ v. placed v.body) e.variants.items
unfolding enum_without_spare
enum_bodies_same e = bodies_of_variants_same e.variants.items

enum_repr_same : (e : EnumType) → (enum_without_spare e).enum_repr ≡ e.enum_repr
unfolding enum_without_spare
enum_repr_same e = refl

packed_same : (s : StructType) → (struct_without_spare s).repr.packed ≡ s.repr.packed
unfolding struct_without_spare
packed_same s = refl

discriminant_same : (v : Variant) → (variant_without_spare v).discriminant ≡ v.discriminant
unfolding variant_without_spare
discriminant_same v = refl

discriminants_from_same : (i : ℕ) (variants : List Variant) → discriminants_from i (map variant_without_spare variants) ≡ discriminants_from i variants
unfolding discriminants_from
discriminants_from_same i [] = refl
discriminants_from_same i (v ∷ variants) = λ j. unwrap_or (discriminant_same v j) (pos i) ∷ discriminants_from_same (i + 1) variants j

enum_discriminants_same : (e : EnumType) → discriminants (enum_without_spare e).variants.items ≡ discriminants e.variants.items
unfolding enum_without_spare
enum_discriminants_same e = discriminants_from_same 0 e.variants.items

-- where its fields lie
pub placed_fields_same : (k : ValueKind) (t : Ty) → placed_fields k (ty_without_spare t) ≡ placed_fields k t
placed_fields_same kind.Struct (ty.User (user.Struct s)) = placed_same s
placed_fields_same kind.Enum (ty.User (user.Enum e)) = enum_placed_same e
placed_fields_same _ (ty.User (user.Struct s)) = refl
placed_fields_same _ (ty.User (user.Enum e)) = refl
placed_fields_same _ _ = refl

pub bodies_same : (k : ValueKind) (t : Ty) → bodies k (ty_without_spare t) ≡ bodies k t
bodies_same kind.Struct (ty.User (user.Struct s)) = ap (λ body. body ∷ []) (placed_same s)
bodies_same kind.Enum (ty.User (user.Enum e)) = enum_bodies_same e
bodies_same _ _ = refl

pub is_packed_struct_same : (k : ValueKind) (t : Ty) → is_packed_struct k (ty_without_spare t) ≡ is_packed_struct k t
is_packed_struct_same kind.Struct (ty.User (user.Struct s)) = packed_same s
is_packed_struct_same _ _ = refl

-- its discriminants and its tag
pub repr_of_kind_same : (k : ValueKind) (t : Ty) → repr_of_kind k (ty_without_spare t) ≡ repr_of_kind k t
repr_of_kind_same kind.Enum (ty.User (user.Enum e)) = enum_repr_same e
repr_of_kind_same _ _ = refl

pub tag_bytes_same : (k : ValueKind) (t : Ty) → tag_bytes k (ty_without_spare t) ≡ tag_bytes k t
tag_bytes_same kind.Enum (ty.User (user.Enum e)) = ap tag_width (enum_repr_same e)
tag_bytes_same _ _ = refl

pub discriminants_of_kind_same : (k : ValueKind) (t : Ty) → discriminants_of_kind k (ty_without_spare t) ≡ discriminants_of_kind k t
discriminants_of_kind_same kind.Enum (ty.User (user.Enum e)) = enum_discriminants_same e
discriminants_of_kind_same _ _ = refl

-- Whether the definition, the type, the parameters and the record of a shape say the same.
use Rattle.std.specs.Prelude.{ℕ, Bool, true, false, not, ◌==◌, ◌&&◌, ◌||◌, List, [], ◌∷◌, Option, None, Some, bytes_eq, codes, is_some, slice_get}
use Rattle.std.specs.Option.{option_map_or}
use Rattle.facet_base.specs.declared.known_pointer.KnownPointer.{KnownPointer}
use Rattle.facet_base.specs.declared.known_pointer.KnownPointer.TheVariants as known
use Rattle.facet_base.specs.declared.layout.ShapeId.{ShapeId}
use Rattle.facet_base.specs.declared.layout.ShapeLayout.{ShapeLayout}
use Rattle.facet_base.specs.declared.scalar_type.ScalarType.{ScalarType}
use Rattle.facet_caps.specs.VTableErased.{capabilities_of}
use Rattle.facet_caps.specs.declared.vtable.VTableDirect.{VTableDirect}
use Rattle.facet_def.specs.declared.def.Def.{Def}
use Rattle.facet_def.specs.declared.def.Def.TheVariants as def
use Rattle.facet_desc.specs.declared.field.Field.{Field}
use Rattle.facet_desc.specs.declared.parameter.TypeParam.{TypeParam}
use Rattle.facet_desc.specs.declared.sequence.SequenceType.{SequenceType}
use Rattle.facet_desc.specs.declared.sequence.SequenceType.TheVariants as sequence
use Rattle.facet_desc.specs.declared.ty.Ty.{Ty}
use Rattle.facet_desc.specs.declared.ty.Ty.TheVariants as ty
use Rattle.facet_desc.specs.declared.ty.UserType.TheVariants as user
use Rattle.facet_desc.specs.declared.variant.Variant.{Variant}
use Rattle.facet_outline.specs.Layout.{option_offset, part_layout}
use Rattle.facet_shape.specs.Ty.{is_transparent_base}
use Rattle.facet_shape.specs.declared.shape.Shape.{Shape}

-- one id is the other
abbrev pub same_id : ShapeId → ShapeId → Bool
same_id a b = a.0 == b.0

-- the type is undefined
abbrev pub has_no_type : Ty → Bool
has_no_type ty.Undefined = true
has_no_type _ = false

-- a sequence type is that of so many of these elements, or of any number where none is given
abbrev pub is_sequence_of : ShapeId → Option ℕ → SequenceType → Bool
is_sequence_of t (Some n) (sequence.Array a) = same_id a.t t && (a.n == n)
is_sequence_of t None (sequence.Slice s) = same_id s.t t
is_sequence_of t n _ = false

-- the definition is an array or a slice, and the type a sequence of another element or length
abbrev pub is_other_sequence : Def → Ty → Bool
is_other_sequence (def.Array a) (ty.Sequence s) = not (is_sequence_of a.t (Some a.n) s)
is_other_sequence (def.Slice d) (ty.Sequence s) = not (is_sequence_of d.t None s)
is_other_sequence d t = false

-- the type is a struct or an enum
abbrev pub is_struct_or_enum : Ty → Bool
is_struct_or_enum (ty.User (user.Struct s)) = true
is_struct_or_enum (ty.User (user.Enum e)) = true
is_struct_or_enum _ = false

-- it is a struct or an enum, and has a definition other than Option
abbrev pub is_defined_user_type : Def → Ty → Bool
is_defined_user_type def.Undefined t = false
is_defined_user_type (def.Option d) t = false
is_defined_user_type _ t = is_struct_or_enum t

-- there is one field, of the shape t at that offset
abbrev pub is_only_field : ShapeId → ℕ → List Field → Bool
is_only_field t offset (f ∷ []) = same_id f.shape t && (f.offset == offset)
is_only_field t offset _ = false

-- there is no field
abbrev pub has_no_field : List Field → Bool
has_no_field [] = true
has_no_field _ = false

-- the variants are None without fields and Some with that one field
abbrev pub are_option_variants : ShapeId → ℕ → List Variant → Bool
are_option_variants t offset (none ∷ some ∷ []) =
    bytes_eq none.name (codes "None") && has_no_field none.body.fields.items
    && bytes_eq some.name (codes "Some") && is_only_field t offset some.body.fields.items
are_option_variants t offset _ = false

-- the type is one that an option of t has, whose part lies at that offset
abbrev pub is_option_type : ShapeId → ℕ → Ty → Bool
is_option_type t offset (ty.User user.Opaque) = true
is_option_type t offset (ty.User (user.Enum e)) = are_option_variants t offset e.variants.items
is_option_type t offset _ = false

-- the definition is an option, and the type not one that it has
abbrev pub is_other_option : (ShapeId → ShapeLayout) → Def → Ty → Bool
is_other_option layouts (def.Option o) t = not (is_option_type o.t (option_offset (part_layout (layouts o.t))) t)
is_other_option layouts _ t = false

-- the parameter at an index is that shape
abbrev pub is_parameter : List TypeParam → ℕ → ShapeId → Bool
is_parameter params i id = option_map_or (λ p. same_id p.shape id) (slice_get params i) false

-- the first parameters of a container aren't its parts
abbrev pub has_other_parameters : Def → List TypeParam → Bool
has_other_parameters (def.List l) params = not (is_parameter params 0 l.t)
has_other_parameters (def.Set s) params = not (is_parameter params 0 s.t)
has_other_parameters (def.Option o) params = not (is_parameter params 0 o.t)
has_other_parameters (def.Array a) params = not (is_parameter params 0 a.t)
has_other_parameters (def.Map m) params = not (is_parameter params 0 m.k && is_parameter params 1 m.v)
has_other_parameters (def.Result r) params = not (is_parameter params 0 r.t && is_parameter params 1 r.e)
has_other_parameters _ params = false

-- there is no content, or the first parameter isn't it
abbrev pub lacks_content : Option ShapeId → List TypeParam → Bool
lacks_content None params = true
lacks_content (Some id) params = not (is_parameter params 0 id)

-- the same, if it is a box
abbrev pub lacks_content_if_box : Option KnownPointer → Option ShapeId → List TypeParam → Bool
lacks_content_if_box (Some known.Box) pointee params = lacks_content pointee params
lacks_content_if_box _ pointee params = false

-- it is a box without a content, or whose first parameter isn't its content
abbrev pub is_box_without_content : Def → List TypeParam → Bool
is_box_without_content (def.Pointer p) params = lacks_content_if_box p.known p.pointee params
is_box_without_content _ params = false

-- there is a scalar, and the definition isn't Scalar
abbrev pub is_other_scalar : Option ScalarType → Def → Bool
is_other_scalar k def.Scalar = false
is_other_scalar k _ = is_some k

-- it is a packed enum, or a packed struct that lies in memory as its one field does
abbrev pub is_packed_wrongly : Ty → Bool
is_packed_wrongly (ty.User (user.Struct s)) = s.repr.packed && is_transparent_base s.repr.base
is_packed_wrongly (ty.User (user.Enum e)) = e.repr.packed
is_packed_wrongly _ = false

-- there is an order without equality, or a total order without a partial one
abbrev pub has_order_alone : VTableDirect → Bool
has_order_alone v = ((v.partial_cmp || v.cmp) && not v.partial_eq) || (v.cmp && not v.partial_cmp)

-- what a shape says of itself doesn't fit together
unfoldable pub is_mismatched : (ShapeId → ShapeLayout) → Shape → Bool
is_mismatched layouts s =
    has_no_type s.ty
    || is_other_sequence s.def s.ty
    || is_defined_user_type s.def s.ty
    || is_other_option layouts s.def s.ty
    || has_other_parameters s.def s.type_params.items
    || is_box_without_content s.def s.type_params.items
    || is_other_scalar s.scalar s.def
    || is_packed_wrongly s.ty
    || has_order_alone (capabilities_of s.vtable)

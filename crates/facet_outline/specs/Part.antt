-- The parts of which the values of a shape consist.
use Rattle.std.specs.Prelude.{ℕ, List, [], Option, None, Some}
use Rattle.std.specs.Option.{option_to_list}
use Rattle.facet_base.specs.declared.layout.ShapeId.{ShapeId}
use Rattle.facet_def.specs.declared.def.Def.{Def}
use Rattle.facet_def.specs.declared.def.Def.TheVariants as def
use Rattle.facet_desc.specs.declared.ty.Ty.{Ty}
use Rattle.facet_desc.specs.declared.ty.Ty.TheVariants as ty
use Rattle.facet_desc.specs.declared.ty.UserType.TheVariants as user
use Rattle.facet_outline.specs.References.{fields_of_enum, fields_of_struct, parts_of_def}
use Rattle.facet_outline.specs.ValueKind.{kind_of}
use Rattle.facet_outline.specs.declared.value_kind.ValueKind.{ValueKind}
use Rattle.facet_outline.specs.declared.value_kind.ValueKind.TheVariants as kind
use Rattle.facet_shape.specs.declared.shape.Shape.{Shape}

-- the fields of a struct, or of all variants of an enum
abbrev pub fields_of_type : Ty → List ShapeId
fields_of_type (ty.User (user.Struct s)) = fields_of_struct s
fields_of_type (ty.User (user.Enum e)) = fields_of_enum e
fields_of_type _ = []

-- the parts that lie inside the values of a kind: of a container they lie elsewhere
abbrev pub inline_parts_of_kind : ValueKind → Def → Ty → List ShapeId
inline_parts_of_kind kind.Struct d t = fields_of_type t
inline_parts_of_kind kind.Enum d t = fields_of_type t
inline_parts_of_kind kind.Option d t = parts_of_def d
inline_parts_of_kind kind.Result d t = parts_of_def d
inline_parts_of_kind kind.Array d t = parts_of_def d
inline_parts_of_kind _ d t = []

-- the parts of the values of a kind
abbrev pub parts_of_kind : ValueKind → Option ShapeId → Def → Ty → List ShapeId
parts_of_kind kind.List element d t = parts_of_def d
parts_of_kind kind.Map element d t = parts_of_def d
parts_of_kind kind.Set element d t = parts_of_def d
parts_of_kind kind.Box element d t = parts_of_def d
parts_of_kind kind.BoxedSlice element d t = option_to_list element
parts_of_kind k element d t = inline_parts_of_kind k d t

-- the parts that lie inside the values of a shape
unfoldable pub inline_parts : Option ShapeId → Shape → List ShapeId
inline_parts element shape = inline_parts_of_kind (kind_of element shape) shape.def shape.ty

-- the parts of the values of a shape
unfoldable pub parts : Option ShapeId → Shape → List ShapeId
parts element shape = parts_of_kind (kind_of element shape) element shape.def shape.ty

-- how often a value has each of its inline parts: an array has its element so many times, and all else once
abbrev pub repetition : Def → ℕ
repetition (def.Array a) = a.n
repetition _ = 1

-- the key of a map, or the item of a set: what the values of the kind are ordered by
abbrev pub key_of_kind : ValueKind → Def → Option ShapeId
key_of_kind kind.Map (def.Map m) = Some m.k
key_of_kind kind.Set (def.Set s) = Some s.t
key_of_kind _ _ = None

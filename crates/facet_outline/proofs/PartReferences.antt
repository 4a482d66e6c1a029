-- The parts of a shape are among its references, but for the elements of a slice that it points to.
use Rattle.std.proofs.Common.{Bool, true, false, List, [], ◌++◌, Contains, Option, ◌⊎◌, if◌then◌else◌, inl, inr, map, arith}
use Rattle.std.specs.List.{flat_map}
use Rattle.std.specs.Option.{option_to_list}
use Rattle.std.proofs.lemmas.List.Elements.{Contains-append_left, Contains-append_right}
use Rattle.facet_base.specs.declared.layout.ShapeId.{ShapeId}
use Rattle.facet_def.specs.declared.def.Def.{Def}
use Rattle.facet_desc.specs.declared.ty.Ty.{Ty}
use Rattle.facet_desc.specs.declared.ty.Ty.TheVariants as ty
use Rattle.facet_desc.specs.declared.ty.UserType.TheVariants as user
use Rattle.facet_outline.specs.Part.{fields_of_type, inline_parts, inline_parts_of_kind, parts, parts_of_kind}
use Rattle.facet_outline.specs.References.{eager_references, fields_of_other, fields_of_struct, fields_of_tuple, height_references, is_tuple, other_references, part_references, parts_of_def, parts_of_type, proxies_of, references, shapes_in, strong_of_def, weak_of_def}
use Rattle.facet_outline.specs.ValueKind.{kind_of}
use Rattle.facet_outline.specs.declared.value_kind.ValueKind.{ValueKind}
use Rattle.facet_outline.specs.declared.value_kind.ValueKind.TheVariants as kind
use Rattle.facet_shape.specs.declared.shape.Shape.{Shape}

-- an inline part is a part
inline_of_kind_is_part : (k : ValueKind) (element : Option ShapeId) (d : Def) (t : Ty) (id : ShapeId) → Contains (inline_parts_of_kind k d t) id → Contains (parts_of_kind k element d t) id
inline_of_kind_is_part kind.List element d t id (i, below, at) = absurd (omega arith)
inline_of_kind_is_part kind.Map element d t id (i, below, at) = absurd (omega arith)
inline_of_kind_is_part kind.Set element d t id (i, below, at) = absurd (omega arith)
inline_of_kind_is_part kind.Box element d t id (i, below, at) = absurd (omega arith)
inline_of_kind_is_part kind.BoxedSlice element d t id (i, below, at) = absurd (omega arith)
inline_of_kind_is_part _ element d t id among = among

pub inline_is_part : (element : Option ShapeId) (s : Shape) (id : ShapeId) → Contains (inline_parts element s) id → Contains (parts element s) id
unfolding inline_parts parts
inline_is_part element s id among = inline_of_kind_is_part (kind_of element s) element s.def s.ty id among

-- a height reference is eager, and an eager one is a reference
pub height_is_eager : (s : Shape) (id : ShapeId) → Contains (height_references s) id → Contains (eager_references s) id
unfolding eager_references
height_is_eager s id among = Contains-append_left (height_references s) _ id among

pub eager_is_reference : (s : Shape) (id : ShapeId) → Contains (eager_references s) id → Contains (references s) id
unfolding references
eager_is_reference s id among = Contains-append_left (eager_references s) _ id among

other_is_reference : (s : Shape) (id : ShapeId) → Contains (other_references s) id → Contains (references s) id
unfolding references
other_is_reference s id among = Contains-append_right (eager_references s) (other_references s) id among

part_reference_is_reference : (s : Shape) (id : ShapeId) → Contains (part_references s) id → Contains (references s) id
unfolding height_references
part_reference_is_reference s id among =
    let params = map (λ p. p.shape) s.type_params.items in
    let in_two = Contains-append_right params (part_references s) id among in
    let in_three = Contains-append_left (params ++ part_references s) (option_to_list s.inner) id in_two in
    let in_four = Contains-append_left (params ++ part_references s ++ option_to_list s.inner) (option_to_list s.builder_shape) id in_three in
    let in_all = Contains-append_left (params ++ part_references s ++ option_to_list s.inner ++ option_to_list s.builder_shape) (proxies_of s) id in_four in
    eager_is_reference s id (height_is_eager s id in_all)

pub def_part_is_reference : (s : Shape) (id : ShapeId) → Contains (parts_of_def s.def) id → Contains (references s) id
unfolding part_references
def_part_is_reference s id among =
    let in_two = Contains-append_left (parts_of_def s.def) (strong_of_def s.def) id among in
    let in_three = Contains-append_left (parts_of_def s.def ++ strong_of_def s.def) (parts_of_type s.ty) id in_two in
    let in_all = Contains-append_left (parts_of_def s.def ++ strong_of_def s.def ++ parts_of_type s.ty) (fields_of_tuple s.ty) id in_three in
    part_reference_is_reference s id in_all

tuple_field_is_reference : (s : Shape) (id : ShapeId) → Contains (fields_of_tuple s.ty) id → Contains (references s) id
unfolding part_references
tuple_field_is_reference s id among =
    part_reference_is_reference s id (Contains-append_right (parts_of_def s.def ++ strong_of_def s.def ++ parts_of_type s.ty) (fields_of_tuple s.ty) id among)

other_field_is_reference : (s : Shape) (id : ShapeId) → Contains (fields_of_other s.ty) id → Contains (references s) id
unfolding other_references
other_field_is_reference s id among =
    let weak = weak_of_def s.def in
    let in_two = Contains-append_left (fields_of_other s.ty) weak id among in
    other_is_reference s id (Contains-append_left (fields_of_other s.ty ++ weak) (flat_map (λ a. shapes_in a.payload) s.attributes.items) id in_two)

-- a field is one of a tuple or of another type
either_way : (b : Bool) (ids : List ShapeId) (id : ShapeId) → Contains ids id → Contains (if b then ids else []) id ⊎ Contains (if b then [] else ids) id
either_way true ids id among = inl among
either_way false ids id among = inr among

field_of_tuple_or_other : (t : Ty) (id : ShapeId) → Contains (fields_of_type t) id → Contains (fields_of_tuple t) id ⊎ Contains (fields_of_other t) id
field_of_tuple_or_other (ty.User (user.Struct s)) id among = either_way (is_tuple s.kind) (fields_of_struct s) id among
field_of_tuple_or_other (ty.User (user.Enum e)) id among = inr among
field_of_tuple_or_other _ id (i, below, at) = absurd (omega arith)

pub field_is_reference : (s : Shape) (id : ShapeId) → Contains (fields_of_type s.ty) id → Contains (references s) id
field_is_reference s id among = elim (field_of_tuple_or_other s.ty id among) [ inl tuple ↦ tuple_field_is_reference s id tuple | inr other ↦ other_field_is_reference s id other ]

-- a part is a reference, or the element of the slice that the shape points to
part_of_kind_is_reference : (k : ValueKind) (element : Option ShapeId) (s : Shape) (id : ShapeId) → Contains (parts_of_kind k element s.def s.ty) id → Contains (references s) id ⊎ Contains (option_to_list element) id
part_of_kind_is_reference kind.Struct element s id among = inl (field_is_reference s id among)
part_of_kind_is_reference kind.Enum element s id among = inl (field_is_reference s id among)
part_of_kind_is_reference kind.Option element s id among = inl (def_part_is_reference s id among)
part_of_kind_is_reference kind.Result element s id among = inl (def_part_is_reference s id among)
part_of_kind_is_reference kind.Array element s id among = inl (def_part_is_reference s id among)
part_of_kind_is_reference kind.List element s id among = inl (def_part_is_reference s id among)
part_of_kind_is_reference kind.Map element s id among = inl (def_part_is_reference s id among)
part_of_kind_is_reference kind.Set element s id among = inl (def_part_is_reference s id among)
part_of_kind_is_reference kind.Box element s id among = inl (def_part_is_reference s id among)
part_of_kind_is_reference kind.BoxedSlice element s id among = inr among
part_of_kind_is_reference _ element s id (i, below, at) = absurd (omega arith)

pub part_is_reference : (element : Option ShapeId) (s : Shape) (id : ShapeId) → Contains (parts element s) id → Contains (references s) id ⊎ Contains (option_to_list element) id
unfolding parts
part_is_reference element s id among = part_of_kind_is_reference (kind_of element s) element s id among

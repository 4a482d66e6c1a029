-- The children of a name: which they are, and that they must stand before the shape.
use Rattle.std.proofs.Common.{◌≡◌, ℕ, Bool, true, false, List, [], ◌∷◌, ◌++◌, take, drop, map, Contains, Option, None, Some, codes, if◌then◌else◌, option_to_list, refl, sym, ap, subst, flat_map, arith}
use Rattle.std.specs.Option.{option_map_or}
use Rattle.std.proofs.lemmas.List.{take-append-drop}
use Rattle.std.proofs.lemmas.List.Elements.{Contains-append_left, Contains-append_right}
use Rattle.facet_base.specs.declared.layout.ShapeId.{ShapeId}
use Rattle.facet_base.specs.declared.type_name.NameForm.{NameForm}
use Rattle.facet_base.specs.declared.type_name.NameForm.TheVariants as form
use Rattle.facet_def.specs.declared.def.Def.{Def}
use Rattle.facet_def.specs.declared.def.Def.TheVariants as def
use Rattle.facet_desc.specs.declared.ty.Ty.{Ty}
use Rattle.facet_desc.specs.declared.ty.Ty.TheVariants as ty
use Rattle.facet_desc.specs.declared.ty.UserType.TheVariants as user
use Rattle.facet_type_name.specs.Name.{array_name, bracketed, child_of, form_pieces, generic_name, name_children, name_pieces, own_text, parameters_of, slice_name, tuple_name}
use Rattle.facet_outline.specs.References.{eager_references, fields_of_struct, fields_of_tuple, height_references, is_tuple, part_references, parts_of_def, parts_of_type, proxies_of, strong_of_def}
use Rattle.facet_type_name.proofs.NamePieces.{children_bracketed, children_generic}
use Rattle.facet_outline.proofs.PartReferences.{height_is_eager}
use Rattle.facet_shape.specs.declared.shape.Shape.{Shape}

-- the children are type parameters, the element of the definition or the fields of a tuple
element_of_array : (d : Def) (id : ShapeId) → Contains (flat_map child_of (array_name true d)) id → Contains (parts_of_def d) id
element_of_array (def.Array a) id among = among
element_of_array _ id (i, inside, at) = absurd (omega (arith, inside))

element_of_slice : (d : Def) (id : ShapeId) → Contains (flat_map child_of (slice_name true d)) id → Contains (parts_of_def d) id
element_of_slice (def.Slice s) id among = among
element_of_slice _ id (i, inside, at) = absurd (omega (arith, inside))

children_if : (tuple : Bool) (ids : List ShapeId) → flat_map child_of (if tuple then bracketed true ids else own_text (codes "(?)") ∷ []) ≡ if tuple then ids else []
children_if true ids = children_bracketed ids
children_if false ids = refl

pub fields_of_name : (t : Ty) → flat_map child_of (tuple_name true t) ≡ fields_of_tuple t
fields_of_name (ty.User (user.Struct s)) = children_if (is_tuple s.kind) (fields_of_struct s)
fields_of_name (ty.User (user.Enum e)) = refl
fields_of_name (ty.User user.Opaque) = refl
fields_of_name _ = refl

-- type parameters, parts of the definition and fields of a tuple are among the height references
behind_parameters : (s : Shape) (id : ShapeId) → Contains (parameters_of s ++ part_references s) id → Contains (height_references s) id
unfolding height_references
behind_parameters s id among =
    let first = parameters_of s ++ part_references s in
    let in_two = Contains-append_left first (option_to_list s.inner) id among in
    let in_three = Contains-append_left (first ++ option_to_list s.inner) (option_to_list s.builder_shape) id in_two in
    Contains-append_left (first ++ option_to_list s.inner ++ option_to_list s.builder_shape) (proxies_of s) id in_three

parameter_is_height : (s : Shape) (id : ShapeId) → Contains (parameters_of s) id → Contains (height_references s) id
parameter_is_height s id among = behind_parameters s id (Contains-append_left (parameters_of s) (part_references s) id among)

part_is_height : (s : Shape) (id : ShapeId) → Contains (part_references s) id → Contains (height_references s) id
part_is_height s id among = behind_parameters s id (Contains-append_right (parameters_of s) (part_references s) id among)

def_part_is_height : (s : Shape) (id : ShapeId) → Contains (parts_of_def s.def) id → Contains (height_references s) id
unfolding part_references
def_part_is_height s id among =
    let parts = parts_of_def s.def in
    let in_two = Contains-append_left parts (strong_of_def s.def) id among in
    let in_three = Contains-append_left (parts ++ strong_of_def s.def) (parts_of_type s.ty) id in_two in
    part_is_height s id (Contains-append_left (parts ++ strong_of_def s.def ++ parts_of_type s.ty) (fields_of_tuple s.ty) id in_three)

tuple_field_is_height : (s : Shape) (id : ShapeId) → Contains (fields_of_tuple s.ty) id → Contains (height_references s) id
unfolding part_references
tuple_field_is_height s id among =
    part_is_height s id (Contains-append_right (parts_of_def s.def ++ strong_of_def s.def ++ parts_of_type s.ty) (fields_of_tuple s.ty) id among)

generic_child_is_height : (word : List ℕ) (n : ℕ) (s : Shape) (id : ShapeId) → Contains (flat_map child_of (generic_name word n true (parameters_of s))) id → Contains (height_references s) id
generic_child_is_height word n s id among =
    let ids = parameters_of s in
    let first = subst (λ l. Contains l id) (children_generic word n ids) among in
    parameter_is_height s id (subst (λ l. Contains l id) (take-append-drop n ids) (Contains-append_left (take n ids) (drop n ids) id first))

form_child_is_height : (f : NameForm) (s : Shape) (id : ShapeId) → Contains (flat_map child_of (form_pieces f true s)) id → Contains (height_references s) id
form_child_is_height form.Vec s id among = generic_child_is_height (codes "Vec") 1 s id among
form_child_is_height form.Option s id among = generic_child_is_height (codes "Option") 1 s id among
form_child_is_height form.Result s id among = generic_child_is_height (codes "Result") 2 s id among
form_child_is_height form.Map s id among = generic_child_is_height (codes "BTreeMap") 2 s id among
form_child_is_height form.Set s id among = generic_child_is_height (codes "BTreeSet") 1 s id among
form_child_is_height form.Box s id among = generic_child_is_height (codes "Box") 1 s id among
form_child_is_height form.Array s id among = def_part_is_height s id (element_of_array s.def id among)
form_child_is_height form.Slice s id among = def_part_is_height s id (element_of_slice s.def id among)
form_child_is_height form.Tuple s id among = tuple_field_is_height s id (subst (λ l. Contains l id) (fields_of_name s.ty) among)

child_by_form : (f : Option NameForm) (s : Shape) (id : ShapeId) → Contains (flat_map child_of (option_map_or (λ g. form_pieces g true s) f (own_text s.type_identifier ∷ []))) id → Contains (height_references s) id
child_by_form None s id (i, inside, at) = absurd (omega (arith, inside))
child_by_form (Some f) s id among = form_child_is_height f s id among

pub child_is_height : (s : Shape) (id : ShapeId) → Contains (name_children s) id → Contains (height_references s) id
unfolding name_children name_pieces
child_is_height s id among = child_by_form s.type_name s id among

pub child_is_eager : (s : Shape) (id : ShapeId) → Contains (name_children s) id → Contains (eager_references s) id
child_is_eager s id among = height_is_eager s id (child_is_height s id among)

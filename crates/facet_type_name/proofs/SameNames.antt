-- The name of a shape depends on the items of its lists alone.
use Rattle.std.proofs.Common.{◌≡◌, Bool, true, List, [], ◌∷◌, ◌++◌, Option, None, Some, codes, if◌then◌else◌, refl, ap, map, sum_by, flat_map}
use Rattle.std.specs.Option.{option_map_or}
use Rattle.facet_base.specs.declared.layout.ShapeId.{ShapeId}
use Rattle.facet_base.specs.declared.type_name.NameForm.{NameForm}
use Rattle.facet_base.specs.declared.type_name.NameForm.TheVariants as form
use Rattle.facet_desc.specs.WithoutSpare.{struct_without_spare, ty_without_spare}
use Rattle.facet_desc.specs.declared.ty.Ty.{Ty}
use Rattle.facet_desc.specs.declared.ty.Ty.TheVariants as ty
use Rattle.facet_desc.specs.declared.ty.UserType.TheVariants as user
use Rattle.facet_type_name.specs.Name.{bracketed, child_of, form_pieces, name_children, name_pieces, own_bytes, own_name_bytes, own_text, tuple_name}
use Rattle.facet_outline.specs.References.{fields_of_struct, is_tuple}
use Rattle.facet_outline.proofs.SameItems.{struct_kind_same, struct_same}
use Rattle.facet_shape.specs.WithoutSpare.{shape_without_spare}
use Rattle.facet_shape.specs.declared.shape.Shape.{Shape}

tuple_same : (shown : Bool) (t : Ty) → tuple_name shown (ty_without_spare t) ≡ tuple_name shown t
tuple_same shown (ty.User (user.Struct s)) = λ i. if is_tuple (struct_kind_same s i) then bracketed shown (struct_same s i) else own_text (codes "(?)") ∷ []
tuple_same shown (ty.User (user.Enum e)) = refl
tuple_same shown (ty.User user.Opaque) = refl
tuple_same shown (ty.Pointer p) = refl
tuple_same shown _ = refl

form_same : (f : NameForm) (shown : Bool) (s : Shape) → form_pieces f shown (shape_without_spare s) ≡ form_pieces f shown s
form_same form.Tuple shown s = tuple_same shown s.ty
form_same _ shown s = refl

by_form_same : (f : Option NameForm) (shown : Bool) (s : Shape) → option_map_or (λ g. form_pieces g shown (shape_without_spare s)) f (own_text s.type_identifier ∷ []) ≡ option_map_or (λ g. form_pieces g shown s) f (own_text s.type_identifier ∷ [])
by_form_same None shown s = refl
by_form_same (Some f) shown s = form_same f shown s

pub pieces_same : (shown : Bool) (s : Shape) → name_pieces shown (shape_without_spare s) ≡ name_pieces shown s
unfolding name_pieces
pieces_same shown s = by_form_same s.type_name shown s

pub own_same : (s : Shape) → own_name_bytes (shape_without_spare s) ≡ own_name_bytes s
unfolding own_name_bytes
own_same s = ap (λ pieces. sum_by own_bytes pieces) (pieces_same true s)

pub children_same : (s : Shape) → name_children (shape_without_spare s) ≡ name_children s
unfolding name_children
children_same s = ap (λ pieces. flat_map child_of pieces) (pieces_same true s)

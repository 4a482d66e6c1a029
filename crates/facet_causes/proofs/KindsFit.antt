-- A shape whose values are options, results or an enum says so by its definition or its type.
use Rattle.std.proofs.Common.{Option, None, Some}
use Rattle.std.specs.Prelude.{⊤}
use Rattle.facet_base.specs.declared.known_pointer.KnownPointer.{KnownPointer}
use Rattle.facet_base.specs.declared.known_pointer.KnownPointer.TheVariants as known
use Rattle.facet_base.specs.declared.layout.ShapeId.{ShapeId}
use Rattle.facet_base.specs.declared.scalar_type.ScalarType.{ScalarType}
use Rattle.facet_base.specs.declared.scalar_type.ScalarType.TheVariants as scalar
use Rattle.facet_def.specs.declared.def.Def.{Def}
use Rattle.facet_def.specs.declared.def.Def.TheVariants as def
use Rattle.facet_desc.specs.declared.ty.Ty.{Ty}
use Rattle.facet_desc.specs.declared.ty.Ty.TheVariants as ty
use Rattle.facet_desc.specs.declared.ty.UserType.TheVariants as user
use Rattle.facet_outline.specs.ValueKind.{kind_by_def, kind_by_scalar, kind_by_type, kind_of, kind_of_box, kind_of_pointer}
use Rattle.facet_outline.specs.declared.value_kind.ValueKind.{ValueKind}
use Rattle.facet_outline.specs.declared.value_kind.ValueKind.TheVariants as kind
use Rattle.facet_shape.specs.declared.shape.Shape.{Shape}

-- a kind that the definition or the type has to say is said by it
abbrev pub Fits : ValueKind → Def → Ty → Type 0
Fits kind.Option (def.Option o) t = ⊤
Fits kind.Option _ t = ⊥
Fits kind.Result (def.Result r) t = ⊤
Fits kind.Result _ t = ⊥
Fits kind.Enum d (ty.User (user.Enum e)) = ⊤
Fits kind.Enum d _ = ⊥
Fits k d t = ⊤

fits_type : (d : Def) (t : Ty) → Fits (kind_by_type t) d t
fits_type d (ty.User (user.Struct s)) = tt
fits_type d (ty.User (user.Enum e)) = tt
fits_type d _ = tt

fits_box : (element : Option ShapeId) (d : Def) (t : Ty) → Fits (kind_of_box element) d t
fits_box (Some id) d t = tt
fits_box None d t = tt

fits_pointer : (element : Option ShapeId) (pointer : Option KnownPointer) (d : Def) (t : Ty) → Fits (kind_of_pointer element pointer) d t
fits_pointer element (Some known.Box) d t = fits_box element d t
fits_pointer element _ d t = tt

fits_def : (element : Option ShapeId) (d : Def) (t : Ty) → Fits (kind_by_def element d t) d t
fits_def element (def.Pointer p) t = fits_pointer element p.known (def.Pointer p) t
fits_def element def.Undefined t = fits_type def.Undefined t
fits_def element _ t = tt

fits_scalar : (k : Option ScalarType) (element : Option ShapeId) (d : Def) (t : Ty) → Fits (kind_by_scalar k element d t) d t
fits_scalar (Some scalar.Str) element d t = fits_def element d t
fits_scalar None element d t = fits_def element d t
fits_scalar (Some _) element d t = tt

pub fits : (element : Option ShapeId) (s : Shape) → Fits (kind_of element s) s.def s.ty
fits element s = fits_scalar s.scalar element s.def s.ty

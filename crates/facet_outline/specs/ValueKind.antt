-- What the values of a shape are.
use Rattle.std.specs.Prelude.{Option, None, Some}
use Rattle.facet_base.specs.declared.known_pointer.KnownPointer.{KnownPointer}
use Rattle.facet_base.specs.declared.known_pointer.KnownPointer.TheVariants as known
use Rattle.facet_base.specs.declared.layout.ShapeId.{ShapeId}
use Rattle.facet_base.specs.declared.scalar_type.ScalarType.{ScalarType}
use Rattle.facet_base.specs.declared.scalar_type.ScalarType.TheVariants as scalar
use Rattle.facet_def.specs.declared.def.Def.{Def}
use Rattle.facet_def.specs.declared.def.Def.TheVariants as def
use Rattle.facet_desc.specs.declared.ty.Ty.{Ty}
use Rattle.facet_desc.specs.declared.ty.Ty.TheVariants as ty
use Rattle.facet_desc.specs.declared.ty.UserType.TheVariants as user
use Rattle.facet_outline.specs.declared.value_kind.ValueKind.{ValueKind}
use Rattle.facet_outline.specs.declared.value_kind.ValueKind.TheVariants as kind
use Rattle.facet_shape.specs.declared.shape.Shape.{Shape}

-- the shape that a definition points to, if it points to one
abbrev pub pointee_of : Def → Option ShapeId
pointee_of (def.Pointer p) = p.pointee
pointee_of _ = None

-- the elements of a slice, if it is one
abbrev pub slice_element : Def → Option ShapeId
slice_element (def.Slice s) = Some s.t
slice_element _ = None

-- by the type, where there is no definition
abbrev pub kind_by_type : Ty → ValueKind
kind_by_type (ty.User (user.Struct s)) = kind.Struct
kind_by_type (ty.User (user.Enum e)) = kind.Enum
kind_by_type _ = kind.NoValue

-- a box holds the elements of a slice, or a value
abbrev pub kind_of_box : Option ShapeId → ValueKind
kind_of_box (Some element) = kind.BoxedSlice
kind_of_box None = kind.Box

-- of the pointers a box alone has values
abbrev pub kind_of_pointer : Option ShapeId → Option KnownPointer → ValueKind
kind_of_pointer element (Some known.Box) = kind_of_box element
kind_of_pointer element _ = kind.NoValue

-- by the definition, where there is no scalar
abbrev pub kind_by_def : Option ShapeId → Def → Ty → ValueKind
kind_by_def element (def.Option d) t = kind.Option
kind_by_def element (def.Result d) t = kind.Result
kind_by_def element (def.List d) t = kind.List
kind_by_def element (def.Map d) t = kind.Map
kind_by_def element (def.Set d) t = kind.Set
kind_by_def element (def.Array d) t = kind.Array
kind_by_def element (def.Pointer d) t = kind_of_pointer element d.known
kind_by_def element def.Undefined t = kind_by_type t
kind_by_def element _ t = kind.NoValue

-- by the scalar: the one value of Unit takes no memory, Str has no values, and the others are stored as leaves
abbrev pub kind_by_scalar : Option ScalarType → Option ShapeId → Def → Ty → ValueKind
kind_by_scalar (Some scalar.Unit) element d t = kind.Unit
kind_by_scalar (Some scalar.Str) element d t = kind_by_def element d t
kind_by_scalar (Some k) element d t = kind.Leaf k
kind_by_scalar None element d t = kind_by_def element d t

-- what the values of a shape are. Where it points to a slice, `element` is the shape of that slice's elements
abbrev pub kind_of : Option ShapeId → Shape → ValueKind
kind_of element shape = kind_by_scalar shape.scalar element shape.def shape.ty

-- What a type is.
use Rattle.std.specs.Prelude.{Bool, true, false}
use Rattle.facet_desc.specs.declared.repr.BaseRepr.{BaseRepr}
use Rattle.facet_desc.specs.declared.repr.BaseRepr.TheVariants as base
use Rattle.facet_desc.specs.declared.ty.Ty.{Ty}
use Rattle.facet_desc.specs.declared.ty.Ty.TheVariants as ty
use Rattle.facet_desc.specs.declared.ty.UserType.TheVariants as user

-- it is a primitive type
abbrev pub is_primitive : Ty → Bool
is_primitive (ty.Primitive p) = true
is_primitive _ = false

-- the representation is that of the only field with a size
abbrev pub is_transparent_base : BaseRepr → Bool
is_transparent_base base.Transparent = true
is_transparent_base _ = false

-- it is a struct of that representation
abbrev pub is_transparent_struct : Ty → Bool
is_transparent_struct (ty.User (user.Struct s)) = is_transparent_base s.repr.base
is_transparent_struct _ = false

-- it is an enum whose values are borrowed or owned
abbrev pub is_cow_enum : Ty → Bool
is_cow_enum (ty.User (user.Enum e)) = e.is_cow
is_cow_enum _ = false

-- The representation of types in memory.
use Rattle.std.specs.Prelude.{ℕ, ◌==◌, Option, None, Some, if◌then◌else◌}
use Rattle.facet_desc.specs.declared.repr.EnumRepr.{EnumRepr}
use Rattle.facet_desc.specs.declared.repr.EnumRepr.TheVariants.{U8, U16, U32, U64}
use Rattle.facet_desc.specs.declared.repr.Repr.{Repr}
use Rattle.facet_desc.specs.declared.ty.UserType.{UserType}
use Rattle.facet_desc.specs.declared.ty.UserType.TheVariants.{Struct, Enum, Opaque}

-- the unsigned discriminant of that many bytes
abbrev pub unsigned_repr : ℕ → Option EnumRepr
unsigned_repr size =
    if size == 1 then Some U8 else if size == 2 then Some U16 else if size == 4 then Some U32 else if size == 8 then Some U64 else None

-- the representation of a struct or an enum
abbrev pub user_repr : UserType → Option Repr
user_repr (Struct s) = Some s.repr
user_repr (Enum e) = Some e.repr
user_repr Opaque = None

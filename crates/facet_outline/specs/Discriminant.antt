-- The discriminants of an enum, and how a value's variant is stored.
use Rattle.std.specs.Prelude.{ℕ, ◌+◌, ◌<◌, ◌⊎◌, ℤ, pos, Any, Bool, true, false, IsTrue, List, [], ◌∷◌, length, unwrap_or, FitsSigned}
use Rattle.std.specs.Int.{w8, w16, w32, w64, FitsUnsigned}
use Rattle.facet_desc.specs.declared.repr.EnumRepr.{EnumRepr}
use Rattle.facet_desc.specs.declared.repr.EnumRepr.TheVariants as repr
use Rattle.facet_desc.specs.declared.ty.Ty.{Ty}
use Rattle.facet_desc.specs.declared.ty.Ty.TheVariants as ty
use Rattle.facet_desc.specs.declared.ty.UserType.TheVariants as user
use Rattle.facet_desc.specs.declared.variant.Variant.{Variant}
use Rattle.facet_outline.specs.declared.value_kind.ValueKind.{ValueKind}
use Rattle.facet_outline.specs.declared.value_kind.ValueKind.TheVariants as kind

-- the discriminants of variants from an index on: where none is given, the index is one
unfoldable pub discriminants_from : ℕ → List Variant → List ℤ
discriminants_from i [] = []
discriminants_from i (v ∷ variants) = unwrap_or v.discriminant (pos i) ∷ discriminants_from (i + 1) variants

-- the discriminants of an enum's variants
abbrev pub discriminants : List Variant → List ℤ
discriminants variants = discriminants_from 0 variants

-- how many bytes the tag takes
abbrev pub tag_width : EnumRepr → ℕ
tag_width repr.Rust = 1
tag_width repr.RustNPO = 1
tag_width repr.U8 = 1
tag_width repr.I8 = 1
tag_width repr.U16 = 2
tag_width repr.I16 = 2
tag_width repr.U32 = 4
tag_width repr.I32 = 4
tag_width repr.U64 = 8
tag_width repr.I64 = 8
tag_width repr.USize = 8
tag_width repr.ISize = 8

-- a discriminant is a number of the representation's type, which for Rust's own representations is i64
abbrev pub IsOfRepr : EnumRepr → ℤ → Type 0
IsOfRepr repr.U8 z = FitsUnsigned w8 z
IsOfRepr repr.U16 z = FitsUnsigned w16 z
IsOfRepr repr.U32 z = FitsUnsigned w32 z
IsOfRepr repr.U64 z = FitsUnsigned w64 z
IsOfRepr repr.USize z = FitsUnsigned w64 z
IsOfRepr repr.I8 z = FitsSigned w8 z
IsOfRepr repr.I16 z = FitsSigned w16 z
IsOfRepr repr.I32 z = FitsSigned w32 z
IsOfRepr repr.I64 z = FitsSigned w64 z
IsOfRepr repr.ISize z = FitsSigned w64 z
IsOfRepr repr.Rust z = FitsSigned w64 z
IsOfRepr repr.RustNPO z = FitsSigned w64 z

-- the representation is one that Rust chooses
abbrev pub is_rust_repr : EnumRepr → Bool
is_rust_repr repr.Rust = true
is_rust_repr repr.RustNPO = true
is_rust_repr _ = false

-- the discriminants of the values of a kind, which is an enum where there are any
abbrev pub discriminants_of_kind : ValueKind → Ty → List ℤ
discriminants_of_kind kind.Enum (ty.User (user.Enum e)) = discriminants e.variants.items
discriminants_of_kind _ _ = []

-- how the tag of the values of a kind is stored, as Rust chooses where there is none
abbrev pub repr_of_kind : ValueKind → Ty → EnumRepr
repr_of_kind kind.Enum (ty.User (user.Enum e)) = e.enum_repr
repr_of_kind _ _ = repr.Rust

-- a discriminant isn't of the representation's type, or there are more of them than one byte can tell apart in a representation that Rust chooses
abbrev pub AreOutsideRepr : EnumRepr → List ℤ → Type 0
AreOutsideRepr r zs = Any (λ z. ¬ IsOfRepr r z) zs ⊎ (IsTrue (is_rust_repr r) × (256 < length zs))

-- so it is of the values of a kind
abbrev pub HasDiscriminantOutside : ValueKind → Ty → Type 0
HasDiscriminantOutside k t = AreOutsideRepr (repr_of_kind k t) (discriminants_of_kind k t)

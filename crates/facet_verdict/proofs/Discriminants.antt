-- Whether a discriminant is of a representation's type.
use Rattle.std.proofs.Common.{ℤ, Bool, true, false, List, length, inl, inr, T, w8, w16, w32, w64}
use Rattle.std.specs.Int.{Width}
use Rattle.std.specs.Int.Signed.{◌≤ℤ◌, ◌<ℤ◌, le_z, lt_z, mag}
use Rattle.std.specs.Prelude.{FitsSigned}
use Rattle.facet_desc.specs.declared.repr.EnumRepr.{EnumRepr}
use Rattle.facet_desc.specs.declared.repr.EnumRepr.TheVariants as repr
use Rattle.facet_desc.specs.declared.ty.Ty.{Ty}
use Rattle.facet_outline.specs.Discriminant.{AreOutsideRepr, HasDiscriminantOutside, IsOfRepr, discriminants_of_kind, is_rust_repr, repr_of_kind}
use Rattle.facet_outline.specs.declared.value_kind.ValueKind.{ValueKind}
use Rattle.facet_verdict.proofs.Decisions.{Decided, alike, both, either, is_below, is_true, negated, some_of}

passes : (b : Bool) → Decided (T b)
passes true = inl tt
passes false = inr (λ none. none)

is_up_to_z : (a b : ℤ) → Decided (a ≤ℤ b)
is_up_to_z a b = alike (λ t. record { le = t }) (λ r. r.le) (passes (le_z a b))

is_below_z : (a b : ℤ) → Decided (a <ℤ b)
is_below_z a b = alike (λ t. record { lt = t }) (λ r. r.lt) (passes (lt_z a b))

fits_signed : (w : Width) (z : ℤ) → Decided (FitsSigned w z)
fits_signed w z = alike (λ below. record { sfits = below }) (λ fits. fits.sfits) (is_below (mag z) _)

is_of_repr : (r : EnumRepr) (z : ℤ) → Decided (IsOfRepr r z)
is_of_repr repr.U8 z = both (is_up_to_z _ z) (is_below_z z _)
is_of_repr repr.U16 z = both (is_up_to_z _ z) (is_below_z z _)
is_of_repr repr.U32 z = both (is_up_to_z _ z) (is_below_z z _)
is_of_repr repr.U64 z = both (is_up_to_z _ z) (is_below_z z _)
is_of_repr repr.USize z = both (is_up_to_z _ z) (is_below_z z _)
is_of_repr repr.I8 z = fits_signed w8 z
is_of_repr repr.I16 z = fits_signed w16 z
is_of_repr repr.I32 z = fits_signed w32 z
is_of_repr repr.I64 z = fits_signed w64 z
is_of_repr repr.ISize z = fits_signed w64 z
is_of_repr repr.Rust z = fits_signed w64 z
is_of_repr repr.RustNPO z = fits_signed w64 z

are_outside_repr : (r : EnumRepr) (zs : List ℤ) → Decided (AreOutsideRepr r zs)
are_outside_repr r zs = either (some_of (λ z. ¬ IsOfRepr r z) (λ z. negated (is_of_repr r z)) zs) (both (is_true (is_rust_repr r)) (is_below 256 (length zs)))

pub has_discriminant_outside : (k : ValueKind) (t : Ty) → Decided (HasDiscriminantOutside k t)
has_discriminant_outside k t = are_outside_repr (repr_of_kind k t) (discriminants_of_kind k t)

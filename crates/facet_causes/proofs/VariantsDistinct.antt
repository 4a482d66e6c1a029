-- Of a shape that meets no cause each discriminant names one variant, and is a number of the representation's type.
use Rattle.std.proofs.Common.{◌≡◌, ℕ, ◌^◌, ◌<◌, ◌⊎◌, ℤ, pos, negsuc, true, FitsSigned, List, All, Some, get_or, length, slice_get, inl, inr, arith}
use mir.Syntax.{Width}
use mir.Val.{bits, hbits}
use Rattle.std.specs.Int.{w8, w16, w32, w64, FitsUnsigned}
use Rattle.std.specs.Int.Signed.{mag}
use Rattle.std.specs.Ordering.{int_eq}
use Rattle.std.proofs.lemmas.Bool.{cases_lt, cases_order}
use Rattle.std.proofs.lemmas.Bool.Decides.{Decides-int_eq}
use Rattle.std.proofs.lemmas.Int.{ints}
use Rattle.std.proofs.lemmas.Option.{get_or_from_slice_get, slice_get_within}
use Rattle.facet_causes.specs.Causes.{IsWellFormed}
use Rattle.facet_causes.specs.DistinctVariants.{VariantsAreDistinct, discriminants_in}
use Rattle.facet_causes.specs.Reading.{kind_in}
use Rattle.facet_causes.specs.declared.cause.SealCause.TheVariants as cause
use Rattle.facet_causes.proofs.CountedTwice.{counted_twice}
use Rattle.facet_causes.proofs.Found.{any_index}
use Rattle.facet_causes.proofs.NoneMet.{each_shape, none_met}
use Rattle.facet_desc.specs.declared.repr.EnumRepr.{EnumRepr}
use Rattle.facet_desc.specs.declared.repr.EnumRepr.TheVariants as repr
use Rattle.facet_graph.specs.Repeats.{HasRepeat}
use Rattle.facet_leaf.specs.LeafModel.{LeafModel}
use Rattle.facet_outline.specs.Discriminant.{AreOutsideRepr, IsOfRepr, repr_of_kind}
use Rattle.facet_shape.specs.declared.shape.Shape.{Shape}

-- numbers that are listed at two indices are listed twice
repeated : (zs : List ℤ) (i j : ℕ) (z : ℤ) → i < j → slice_get zs i ≡ Some z → slice_get zs j ≡ Some z → HasRepeat zs
repeated zs i j z before first second =
    let one : (k : ℕ) → slice_get zs k ≡ Some z → int_eq (get_or zs k z) z ≡ true = λ k at. (Decides-int_eq (get_or zs k z) z).1 (get_or_from_slice_get zs k z z at) in
    record { value = z; twice = counted_twice (λ v. int_eq v z) zs i j z before (slice_get_within zs j z second) (one i first) (one j second) }

one_index : (zs : List ℤ) → ¬ HasRepeat zs → (i j : ℕ) (z : ℤ) → slice_get zs i ≡ Some z → slice_get zs j ≡ Some z → i ≡ j
one_index zs none i j z first second = elim (cases_order i j) [
  | inl same ↦ same
  | inr (inl before) ↦ absurd (none (repeated zs i j z before first second))
  | inr (inr behind) ↦ absurd (none (repeated zs j i z behind second first))
]

-- whether a number is one of a type can be told
unsigned_or_not : (w : Width) (z : ℤ) → FitsUnsigned w z ⊎ ¬ FitsUnsigned w z
unsigned_or_not w (pos n) = elim (cases_lt n (2 ^ bits w)) [
  | inl below ↦ inl (omega (arith, ints), omega (arith, ints, below))
  | inr above ↦ inr (λ fits. let under = fits.1 in omega (arith, ints, above, under))
]
unsigned_or_not w (negsuc n) = inr (λ fits. let from = fits.0 in omega (arith, ints, from))

signed_or_not : (w : Width) (z : ℤ) → FitsSigned w z ⊎ ¬ FitsSigned w z
signed_or_not w z = elim (cases_lt (mag z) (2 ^ hbits w)) [
  | inl below ↦ inl (record { sfits = below })
  | inr above ↦ inr (λ fits. let under = fits.sfits in omega (arith, above, under))
]

since : {P : Type 0} → P ⊎ ¬ P → ¬ ¬ P → P
since told not_none = elim told [ inl holds ↦ holds | inr fails ↦ absurd (not_none fails) ]

of_repr_since : (r : EnumRepr) (z : ℤ) → ¬ ¬ IsOfRepr r z → IsOfRepr r z
of_repr_since repr.U8 z = since (unsigned_or_not w8 z)
of_repr_since repr.U16 z = since (unsigned_or_not w16 z)
of_repr_since repr.U32 z = since (unsigned_or_not w32 z)
of_repr_since repr.U64 z = since (unsigned_or_not w64 z)
of_repr_since repr.USize z = since (unsigned_or_not w64 z)
of_repr_since repr.I8 z = since (signed_or_not w8 z)
of_repr_since repr.I16 z = since (signed_or_not w16 z)
of_repr_since repr.I32 z = since (signed_or_not w32 z)
of_repr_since _ z = since (signed_or_not w64 z)

module _ {L : Type 0} (m : LeafModel L) (shapes : List Shape) (well : IsWellFormed m shapes) where
  distinct_of : (s : ℕ) (shape : Shape) → slice_get shapes s ≡ Some shape → VariantsAreDistinct shapes shape
  distinct_of s shape is =
      let zs = discriminants_in shapes shape in
      let r = repr_of_kind (kind_in shapes shape) shape.ty in
      let inside : ¬ AreOutsideRepr r zs = none_met m shapes well cause.DiscriminantRange s shape is in
      record {
        one = one_index zs (none_met m shapes well cause.DiscriminantRepeated s shape is);
        fit = λ i d below. of_repr_since r (get_or zs i d) (λ outside. inside (inl (any_index (λ z. ¬ IsOfRepr r z) zs d i below outside)));
        few = λ rust. elim (cases_lt 256 (length zs)) [ inl many ↦ absurd (inside (inr (rust, many))) | inr few ↦ few ];
      }

  -- the variants of each shape are told apart by their discriminants
  pub variants_are_distinct : All (VariantsAreDistinct shapes) shapes
  variants_are_distinct = each_shape shapes (VariantsAreDistinct shapes) distinct_of

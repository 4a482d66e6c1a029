-- The causes in their order. A further cause is one entry more in the list, and one clause more in each of two lemmas.
use Rattle.std.proofs.Common.{◌≡◌, ℕ, ◌+◌, ◌<◌, List, [], ◌∷◌, get_or, length, refl, sym, ◌∙◌, ap, subst, inl, inr, arith}
use Rattle.std.proofs.lemmas.Bool.{cases_lt}
use Rattle.facet_causes.specs.Causes.{IsWellFormed, Meets, rank}
use Rattle.facet_causes.specs.First.{IsFirstCause, NoneBefore, NoneBelow}
use Rattle.facet_causes.specs.declared.cause.SealCause.{SealCause}
use Rattle.facet_causes.specs.declared.cause.SealCause.TheVariants as cause
use Rattle.facet_leaf.specs.LeafModel.{LeafModel}
use Rattle.facet_shape.specs.declared.shape.Shape.{Shape}

in_order : List SealCause
in_order =
    cause.UnknownShape ∷ cause.EagerForward ∷ cause.Mismatch ∷ cause.UnsizedPart ∷ cause.InlineCycle ∷ cause.TooLarge ∷ cause.BadLayout
    ∷ cause.FieldOutside ∷ cause.FieldMisaligned ∷ cause.FieldOverlap ∷ cause.ZeroSizedScalar ∷ cause.DiscriminantRepeated ∷ cause.DiscriminantRange
    ∷ cause.KeyNotOrd ∷ cause.CapabilityMissing ∷ []

cause_at : ℕ → SealCause
cause_at n = get_or in_order n cause.CapabilityMissing

-- the cause at the rank of a cause is that cause
cause_at_rank : (c : SealCause) → cause_at (rank c) ≡ c
unfolding cause_at in_order
cause_at_rank cause.UnknownShape = refl
cause_at_rank cause.EagerForward = refl
cause_at_rank cause.Mismatch = refl
cause_at_rank cause.UnsizedPart = refl
cause_at_rank cause.InlineCycle = refl
cause_at_rank cause.TooLarge = refl
cause_at_rank cause.BadLayout = refl
cause_at_rank cause.FieldOutside = refl
cause_at_rank cause.FieldMisaligned = refl
cause_at_rank cause.FieldOverlap = refl
cause_at_rank cause.ZeroSizedScalar = refl
cause_at_rank cause.DiscriminantRepeated = refl
cause_at_rank cause.DiscriminantRange = refl
cause_at_rank cause.KeyNotOrd = refl
cause_at_rank cause.CapabilityMissing = refl

same_rank : (c d : SealCause) → rank c ≡ rank d → c ≡ d
same_rank c d same = sym (cause_at_rank c) ∙ ap cause_at same ∙ cause_at_rank d

rank_below : (c : SealCause) → rank c < 15
rank_below cause.UnknownShape = omega arith
rank_below cause.EagerForward = omega arith
rank_below cause.Mismatch = omega arith
rank_below cause.UnsizedPart = omega arith
rank_below cause.InlineCycle = omega arith
rank_below cause.TooLarge = omega arith
rank_below cause.BadLayout = omega arith
rank_below cause.FieldOutside = omega arith
rank_below cause.FieldMisaligned = omega arith
rank_below cause.FieldOverlap = omega arith
rank_below cause.ZeroSizedScalar = omega arith
rank_below cause.DiscriminantRepeated = omega arith
rank_below cause.DiscriminantRange = omega arith
rank_below cause.KeyNotOrd = omega arith
rank_below cause.CapabilityMissing = omega arith

level : (m n : ℕ) → ¬ (m < n) → ¬ (n < m) → m ≡ n
level m n not_below not_above = elim (cases_lt m n) [ inl below ↦ absurd (not_below below) | inr upto ↦ elim (cases_lt n m) [ inl above ↦ absurd (not_above above) | inr from ↦ omega arith ] ]

module _ {L : Type 0} (m : LeafModel L) (shapes : List Shape) where
  -- no shape meets a cause before this one, nor this one
  pub none_through : (c : SealCause) → NoneBefore m shapes c → ((s : ℕ) → s < length shapes → ¬ Meets m shapes c s) → NoneBelow m shapes (rank c + 1)
  none_through c before none d s low below = elim (cases_lt (rank d) (rank c)) [
    | inl earlier ↦ before d s earlier below
    | inr later ↦ let same = same_rank c d (omega arith) in subst (λ e. ¬ Meets m shapes e s) same (none s below)
  ]

  -- no shape meets a cause at all
  pub none_at_all : NoneBelow m shapes 15 → IsWellFormed m shapes
  none_at_all none c s below = none c s (rank_below c) below

  ranks_meet : (c d : SealCause) (s t : ℕ) → IsFirstCause m shapes c s → IsFirstCause m shapes d t → ¬ (rank c < rank d)
  ranks_meet c d s t one other before = other.none_before c s before one.least.0 one.least.1

  places_meet : (c : SealCause) (s t : ℕ) → IsFirstCause m shapes c s → IsFirstCause m shapes c t → ¬ (s < t)
  places_meet c s t one other before = other.least.2 s before one.least.1

  -- at most one cause and one shape come first
  pub one_first : (c d : SealCause) (s t : ℕ) → IsFirstCause m shapes c s → IsFirstCause m shapes d t → (c ≡ d) × (s ≡ t)
  one_first c d s t one other =
      let same = same_rank c d (level (rank c) (rank d) (ranks_meet c d s t one other) (ranks_meet d c t s other one)) in
      let like = subst (λ e. IsFirstCause m shapes e t) (sym same) other in
      (same, level s t (places_meet c s t one like) (places_meet c t s like one))

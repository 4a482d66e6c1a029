-- The verdict on a list of shapes: the causes are tried in their order, and for each the shapes in theirs.
use Rattle.std.proofs.Common.{◌≡◌, ℕ, zero, suc, ◌+◌, List, Option, None, Some, length, subst, inl, inr, arith}
use Rattle.std.proofs.lemmas.Bool.{cases_lt}
use Rattle.facet_causes.specs.Causes.{Meets, rank}
use Rattle.facet_causes.specs.First.{NoneBefore, NoneBelow}
use Rattle.facet_causes.specs.declared.cause.SealCause.{SealCause}
use Rattle.facet_causes.specs.declared.cause.SealCause.TheVariants as cause
use Rattle.facet_causes.proofs.Ranks.{none_at_all, none_through}
use Rattle.facet_graph.specs.Least.{IsLeast}
use Rattle.facet_leaf.specs.LeafModel.{LeafModel}
use Rattle.facet_shape.specs.declared.shape.Shape.{Shape}
use Rattle.facet_verdict.specs.Verdict.{Verdict, first_cause, well_formed}
use Rattle.facet_verdict.proofs.Decisions.{Decided}
use Rattle.facet_verdict.proofs.Causing.{meets}

-- the least of the first n numbers of which something holds
record Least (P : ℕ → Type 0) (n : ℕ) : Type 0 where
  found : Option ℕ
  is_least : IsLeast P n found

module _ (P : ℕ → Type 0) (decide : (s : ℕ) → Decided (P s)) where
  one_more : (n : ℕ) (found : Option ℕ) → IsLeast P n found → Decided (P n) → Least P (suc n)
  one_more n (Some s) least decided = record { found = Some s; is_least = (omega (arith, least.0), least.1, least.2) }
  one_more n None none (inl here) = record { found = Some n; is_least = (omega arith, here, none) }
  one_more n None none (inr lacks) = record { found = None; is_least = λ s below. elim (cases_lt s n) [ inl lower ↦ none s lower | inr upper ↦ let same : n ≡ s = omega (arith, below, upper) in subst (λ k. ¬ P k) same lacks ] }

  least_of : (n : ℕ) → Least P n
  least_of zero = record { found = None; is_least = λ s below. absurd (omega (arith, below)) }
  least_of (suc n) = let before = least_of n in one_more n before.found before.is_least (decide n)

module _ {L : Type 0} (m : LeafModel L) (shapes : List Shape) where
  -- no shape meets an earlier cause: the verdict where some shape meets this one, else the further ones are tried
  tried : (c : SealCause) → NoneBefore m shapes c → (NoneBelow m shapes (rank c + 1) → Verdict m shapes) → Verdict m shapes
  tried c before further = go least.found least.is_least
    where
      least : Least (Meets m shapes c) (length shapes)
      least = least_of (Meets m shapes c) (meets m shapes c) (length shapes)

      go : (found : Option ℕ) → IsLeast (Meets m shapes c) (length shapes) found → Verdict m shapes
      go None none = further (none_through m shapes c before none)
      go (Some s) is = first_cause (record { cause = c; shape = record { 0 = s } }) (record { none_before = before; least = is })

  pub verdict : Verdict m shapes
  verdict =
      tried cause.UnknownShape (λ c s below. absurd (omega (arith, below))) (λ none.
      tried cause.EagerForward none (λ none.
      tried cause.Mismatch none (λ none.
      tried cause.UnsizedPart none (λ none.
      tried cause.InlineCycle none (λ none.
      tried cause.TooLarge none (λ none.
      tried cause.BadLayout none (λ none.
      tried cause.FieldOutside none (λ none.
      tried cause.FieldMisaligned none (λ none.
      tried cause.FieldOverlap none (λ none.
      tried cause.ZeroSizedScalar none (λ none.
      tried cause.DiscriminantRepeated none (λ none.
      tried cause.DiscriminantRange none (λ none.
      tried cause.KeyNotOrd none (λ none.
      tried cause.CapabilityMissing none (λ none. well_formed (none_at_all m shapes none))))))))))))))))

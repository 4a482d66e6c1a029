-- What a verdict names.
use Rattle.std.proofs.Common.{◌≡◌, List, None, Some, refl, ap, ◌∙◌}
use Rattle.facet_causes.specs.Causes.{IsWellFormed}
use Rattle.facet_causes.specs.First.{IsFirstCause}
use Rattle.facet_causes.specs.declared.cause.SealError.{SealError}
use Rattle.facet_causes.proofs.Ranks.{one_first}
use Rattle.facet_leaf.specs.LeafModel.{LeafModel}
use Rattle.facet_shape.specs.declared.shape.Shape.{Shape}
use Rattle.facet_verdict.specs.Verdict.{Verdict, answer_of, first_cause, well_formed}

same_error : (e d : SealError) → e.cause ≡ d.cause → e.shape.0 ≡ d.shape.0 → e ≡ d
same_error e d cause shape = ap (λ c. record { cause = c; shape = e.shape }) cause ∙ ap (λ s. record { cause = d.cause; shape = record { 0 = s } }) shape

module _ {L : Type 0} (m : LeafModel L) (shapes : List Shape) where
  pub none_named : (verdict : Verdict m shapes) → IsWellFormed m shapes → answer_of verdict ≡ None
  unfolding answer_of
  none_named (well_formed also) is = refl
  none_named (first_cause error first) is = absurd (is error.cause error.shape.0 first.least.0 first.least.1)

  pub first_named : (verdict : Verdict m shapes) (error : SealError) → IsFirstCause m shapes error.cause error.shape.0 → answer_of verdict ≡ Some error
  unfolding answer_of
  first_named (well_formed is) error first = absurd (is error.cause error.shape.0 first.least.0 first.least.1)
  first_named (first_cause also one) error first =
      let same = one_first m shapes also.cause error.cause also.shape.0 error.shape.0 one first in
      ap Some (same_error also error same.0 same.1)

-- Something holds of an element of a list, or of none; and the answer of a test.
use Rattle.std.proofs.Common.{◌≡◌, ℕ, ◌<◌, ◌↔◌, Bool, IsTrue, IfOk, OnOk, Result, Ok, Err, List, Any, get_or, length, subst, sym, ◌∙◌}
use Rattle.std.proofs.lemmas.List.{get_or_default}
use Rattle.std.proofs.lemmas.Result.{IfOk-weaker}

module _ {X : Type 0} (P : X → Type 0) (xs : List X) (d : X) where
  pub any_index : (i : ℕ) → i < length xs → P (get_or xs i d) → Any P xs
  any_index i below holds = (i, get_or xs i d, below, get_or_default xs i (get_or xs i d) d below, holds)

  pub none_any : ((i : ℕ) → i < length xs → ¬ P (get_or xs i d)) → ¬ Any P xs
  none_any none any = none any.0 any.2 (subst P (sym (get_or_default xs any.0 d any.1 any.2 ∙ any.3)) any.4)

-- a test of what holds alike answers the same
pub answer_alike : {E : Type 0} (r : Result Bool E) (P Q : Type 0) → (P → Q) → (Q → P) → IfOk r (λ met. IsTrue met ↔ P) → IfOk r (λ met. IsTrue met ↔ Q)
answer_alike r P Q to from = IfOk-weaker r (λ met. IsTrue met ↔ P) (λ met. IsTrue met ↔ Q) (λ met tells. ((λ is. to (tells.0 is)), (λ holds. tells.1 (from holds))))

-- a test of the same answers the same
pub answer_as : {E : Type 0} (r : Result Bool E) (P Q : Type 0) → P ≡ Q → IfOk r (λ met. IsTrue met ↔ P) → IfOk r (λ met. IsTrue met ↔ Q)
answer_as r P Q same = subst (λ (X : Type 0). IfOk r (λ met. IsTrue met ↔ X)) same

-- what holds in any case holds on Ok
pub always : {T E : Type 0} (r : Result T E) (P : Type 0) → P → OnOk r P
always (Ok x) P holds = holds
always (Err e) P holds = tt

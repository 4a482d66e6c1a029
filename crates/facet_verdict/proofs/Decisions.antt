-- Decisions, put together from smaller ones.
use Rattle.std.proofs.Common.{◌≡◌, ℕ, zero, suc, ◌==◌, ◌<◌, ◌≤◌, ◌⊎◌, inl, inr, Bool, true, false, All, Any, Contains, List, [], ◌∷◌, slice_index_or, refl, sym, subst, arith}
use Rattle.std.specs.Bool.{Decides}
use Rattle.std.specs.Set.{is_member}
use Rattle.std.proofs.lemmas.Bool.{cases_lt}
use Rattle.std.proofs.lemmas.Bool.Decides.{Decides-eqb}
use Rattle.std.proofs.lemmas.List.{get_or_default}
use Rattle.std.proofs.lemmas.Map.Made.{is_member-Decides}

-- P holds, or it doesn't
abbrev pub Decided : Type 0 → Type 0
Decided P = P ⊎ ¬ P

pub both : {P Q : Type 0} → Decided P → Decided Q → Decided (P × Q)
both (inl p) (inl q) = inl (p, q)
both (inl p) (inr lacks) = inr (λ pair. lacks pair.1)
both (inr lacks) q = inr (λ pair. lacks pair.0)

pub either : {P Q : Type 0} → Decided P → Decided Q → Decided (P ⊎ Q)
either (inl p) q = inl (inl p)
either (inr lacks) (inl q) = inl (inr q)
either (inr lacks) (inr neither) = inr (λ some. elim some [ inl p ↦ lacks p | inr q ↦ neither q ])

pub negated : {P : Type 0} → Decided P → Decided (¬ P)
negated (inl p) = inr (λ lacks. lacks p)
negated (inr lacks) = inl lacks

-- what holds exactly where P holds is decided with it
pub alike : {P Q : Type 0} → (P → Q) → (Q → P) → Decided P → Decided Q
alike there back (inl p) = inl (there p)
alike there back (inr lacks) = inr (λ q. lacks (back q))

pub is_true : (b : Bool) → Decided (b ≡ true)
is_true true = inl refl
is_true false = inr (λ same. cc)

pub decided_by : {P : Type 0} (b : Bool) → Decides b P → Decided P
decided_by b decides = alike decides.0 decides.1 (is_true b)

pub is_below : (m n : ℕ) → Decided (m < n)
is_below m n = elim (cases_lt m n) [ inl below ↦ inl below | inr from ↦ inr (λ below. omega (arith, from, below)) ]

pub is_up_to : (m n : ℕ) → Decided (m ≤ n)
is_up_to m n = elim (cases_lt n m) [ inl above ↦ inr (λ upto. omega (arith, above, upto)) | inr upto ↦ inl upto ]

pub same_number : (m n : ℕ) → Decided (m ≡ n)
same_number m n = decided_by (m == n) (Decides-eqb m n)

pub is_among : (ns : List ℕ) (n : ℕ) → Decided (Contains ns n)
is_among ns n = decided_by (is_member (λ x y. x == y) ns n) (is_member-Decides Decides-eqb ns n)

-- the first element, or one behind it
pub some_here : {X : Type 0} (P : X → Type 0) (x : X) (xs : List X) → P x → Any P (x ∷ xs)
some_here P x xs p = (0, x, omega arith, refl, p)

pub some_behind : {X : Type 0} (P : X → Type 0) (x : X) (xs : List X) → Any P xs → Any P (x ∷ xs)
some_behind P x xs (k, y, below, at, p) = (suc k, y, omega (arith, below), at, p)

here_or_behind : {X : Type 0} (P : X → Type 0) (x : X) (xs : List X) → Any P (x ∷ xs) → P x ⊎ Any P xs
here_or_behind P x xs (zero, y, below, at, p) = inl (subst P (sym at) p)
here_or_behind P x xs (suc k, y, below, at, p) = inr (k, y, omega (arith, below), at, p)

-- some element has P
pub some_of : {X : Type 0} (P : X → Type 0) → ((x : X) → Decided (P x)) → (xs : List X) → Decided (Any P xs)
some_of P decide [] = inr (λ (k, x, below, at, p). omega (arith, below))
some_of P decide (x ∷ xs) = alike (λ found. elim found [ inl p ↦ some_here P x xs p | inr some ↦ some_behind P x xs some ]) (here_or_behind P x xs) (either (decide x) (some_of P decide xs))

-- each element has P
pub each_of : {X : Type 0} (P : X → Type 0) → ((x : X) → Decided (P x)) → (xs : List X) → Decided (All P xs)
each_of {X} P decide xs = alike none_lacks some_lacks (negated (some_of (λ x. ¬ P x) (λ x. negated (decide x)) xs))
  where
    none_lacks : ¬ Any (λ x. ¬ P x) xs → All P xs
    none_lacks none k d below = elim (decide (slice_index_or xs k d)) [ inl p ↦ p | inr lacks ↦ absurd (none (k, slice_index_or xs k d, below, get_or_default xs k (slice_index_or xs k d) d below, lacks)) ]

    some_lacks : All P xs → ¬ Any (λ x. ¬ P x) xs
    some_lacks all (k, x, below, at, lacks) = lacks (subst P at (all k x below))

-- something holds of one of the first n numbers
pub record HasBelow (P : ℕ → Type 0) (n : ℕ) : Type 0 where
  pub at : ℕ
  pub below : at < n
  pub holds : P at

module _ (P : ℕ → Type 0) (decide : (k : ℕ) → Decided (P k)) where
  raised : (n : ℕ) → HasBelow P n → HasBelow P (suc n)
  raised n some = record { at = some.at; below = omega (arith, some.below); holds = some.holds }

  lowered : (n : ℕ) → ¬ P n → HasBelow P (suc n) → HasBelow P n
  lowered n lacks some = elim (cases_lt some.at n) [
    | inl below ↦ record { at = some.at; below = below; holds = some.holds }
    | inr from ↦ let same : some.at ≡ n = omega (arith, from, some.below) in absurd (lacks (subst P same some.holds))
  ]

  pub some_below : (n : ℕ) → Decided (HasBelow P n)
  some_below zero = inr (λ some. omega (arith, some.below))
  some_below (suc n) = elim (decide n) [
    | inl p ↦ inl (record { at = n; below = omega arith; holds = p })
    | inr lacks ↦ alike (raised n) (lowered n lacks) (some_below n)
  ]

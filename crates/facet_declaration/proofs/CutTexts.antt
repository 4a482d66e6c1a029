-- Texts that are cut at a byte: what a cut finds, and what is found where a text has no such byte.
use Rattle.std.proofs.Common.{◌≡◌, ◌≢◌, ℕ, suc, ◌<◌, Bool, true, false, cond, List, [], ◌∷◌, ◌++◌, length, get_or, Option, None, Some, MatchOption, Bor, option_map, refl, sym, ap, ◌∙◌, subst, arith, nat_eq, ◌==◌}
use Rattle.std.specs.List.{list_all, list_any}
use Rattle.std.specs.Option.{option_and_then}
use Rattle.std.proofs.lemmas.Bool.{cond-true, cond-false, eqb-true, eq-eqb, ne_eqb, and_parts, or_parts, or_from, both_ways, false_from_ne_true}
use Rattle.std.proofs.lemmas.Option.{cond_some, same_Some, option_and_then_some}
use Rattle.facet_words.specs.Words.{is_empty}
use Rattle.facet_words.proofs.Numbers.{map_some}
use Rattle.facet_declaration.specs.Cuts.{cut_at, whole_front, ended_by}

-- a text has no byte `b`
abbrev pub Lacks : ℕ → List ℕ → Type 0
Lacks b s = list_any (λ c. c == b) s ≡ false

-- bytes that pass a test which `b` doesn't pass
pub lacks_refused : (p : ℕ → Bool) (b : ℕ) → p b ≡ false → (s : List ℕ) → list_all p s ≡ true → Lacks b s
lacks_refused p b refused [] h = refl
lacks_refused p b refused (c ∷ s) h =
    let parts : (p c ≡ true) × (list_all p s ≡ true) = and_parts _ _ h in
    let other : nat_eq c b ≡ false = false_from_ne_true _ (λ e. both_ways (p b) refused (subst (λ x. p x ≡ true) (eqb-true c b e) parts.0)) in
    or_from _ _ other (lacks_refused p b refused s parts.1)

-- bytes none of which is `b`
lacks_all : (b : ℕ) (s : List ℕ) → ((k : ℕ) → k < length s → get_or s k 0 ≢ b) → Lacks b s
lacks_all b [] h = refl
lacks_all b (c ∷ s) h = or_from _ _ (ne_eqb c b (h 0 (omega arith))) (lacks_all b s (λ k within. h (suc k) (omega arith)))

-- the first `b` is found
pub cut_read : (b : ℕ) (front back : List ℕ) → Lacks b front → cut_at b (front ++ (b ∷ back)) ≡ Some (front, back)
cut_read b [] back h = cond-true (nat_eq b b) _ _ (eq-eqb b b refl)
cut_read b (c ∷ front) back h =
    let parts : (nat_eq c b ≡ false) × Lacks b front = or_parts _ _ h in
    cond-false (nat_eq c b) _ _ parts.0 ∙ ap (option_map {T = List ℕ × List ℕ} {U = List ℕ × List ℕ} (λ p. (c ∷ p.0, p.1))) (cut_read b front back parts.1)

-- without one there is no cut
pub cut_none : (b : ℕ) (s : List ℕ) → Lacks b s → cut_at b s ≡ None
cut_none b [] h = refl
cut_none b (c ∷ s) h =
    let parts : (nat_eq c b ≡ false) × Lacks b s = or_parts _ _ h in
    cond-false (nat_eq c b) _ _ parts.0 ∙ ap (option_map {T = List ℕ × List ℕ} {U = List ℕ × List ℕ} (λ p. (c ∷ p.0, p.1))) (cut_none b s parts.1)

-- a text that is cut is its two sides and the byte between them
pub cut_spelled : (b : ℕ) (s : List ℕ) (parts : List ℕ × List ℕ) → cut_at b s ≡ Some parts → parts.0 ++ (b ∷ parts.1) ≡ s
cut_spelled b [] parts e = let no : ⊥ = cc in absurd no
cut_spelled b (c ∷ s) parts e = by (nat_eq c b) refl (cut_spelled b s) e
  where
    by : (t : Bool) → nat_eq c b ≡ t → ((parts : List ℕ × List ℕ) → cut_at b s ≡ Some parts → parts.0 ++ (b ∷ parts.1) ≡ s)
        → cond t (Some ([], s)) (option_map {T = List ℕ × List ℕ} {U = List ℕ × List ℕ} (λ p. (c ∷ p.0, p.1)) (cut_at b s)) ≡ Some parts → parts.0 ++ (b ∷ parts.1) ≡ c ∷ s
    by true same rest e = subst (λ p. p.0 ++ (b ∷ p.1) ≡ c ∷ s) (same_Some _ _ e) (ap (λ x. x ∷ s) (sym (eqb-true c b same)))
    by false same rest e =
        let found = map_some {A = List ℕ × List ℕ} {B = List ℕ × List ℕ} (λ p. (c ∷ p.0, p.1)) (cut_at b s) parts e in
        subst (λ p. p.0 ++ (b ∷ p.1) ≡ c ∷ s) found.2 (ap (λ t. c ∷ t) (rest found.0 found.1))

-- what `split_once` finds is the cut
pub cut_found : (b : ℕ) (s : List ℕ) (r : Option (Bor (List ℕ) × Bor (List ℕ)))
    → MatchOption r ((k : ℕ) → k < length s → get_or s k 0 ≢ b) (λ x. (s ≡ x.0.now ++ (b ∷ x.1.now)) × ((k : ℕ) → k < length x.0.now → get_or x.0.now k 0 ≢ b))
    → option_map {U = List ℕ × List ℕ} (λ parts. (parts.0.now, parts.1.now)) r ≡ cut_at b s
cut_found b s None h = sym (cut_none b s (lacks_all b s h))
cut_found b s (Some x) h = sym (ap (cut_at b) h.0 ∙ cut_read b x.0.now x.1.now (lacks_all b x.0.now h.1))

-- the last byte is the only `b`
pub ended_read : (b : ℕ) (front : List ℕ) → Lacks b front → ended_by b (front ++ (b ∷ [])) ≡ Some front
ended_read b front h = ap (option_and_then whole_front) (cut_read b front [] h)

-- a text without a `b` isn't ended by one
pub ended_none : (b : ℕ) (s : List ℕ) → Lacks b s → ended_by b s ≡ None
ended_none b s h = ap (option_and_then whole_front) (cut_none b s h)

-- a text that is ended by a byte is what stands before it, and the byte
pub ended_spelled : (b : ℕ) (s front : List ℕ) → ended_by b s ≡ Some front → front ++ (b ∷ []) ≡ s
ended_spelled b s front e =
    option_and_then_some whole_front (cut_at b s) front e
    (λ parts found whole.
    let last = cond_some (is_empty parts.1) parts.0 front whole in
    (λ i. sym last.1 i ++ (b ∷ sym (nothing parts.1 last.0) i)) ∙ cut_spelled b s parts found)
  where
    nothing : (back : List ℕ) → is_empty back ≡ true → back ≡ []
    nothing [] h = refl
    nothing (c ∷ back) h = let no : ⊥ = cc in absurd no

-- The trail of a search: it grows by a node with each mark, and by it the marks are taken back.
use Rattle.std.proofs.Common.{◌≡◌, ◌≢◌, ℕ, ◌<◌, ◌||◌, ◌&&◌, ◌==◌, Bool, true, false, not, List, [], ◌∷◌, ◌++◌, Result, Ok, Err, IfOk, OnErr, length, get_or, set, refl, sym, ◌∙◌, ap, subst, inl, inr}
use Rattle.std.specs.Bool.{OnTrue}
use Rattle.std.proofs.lemmas.Bool.{cases_Bool, cases_eq, eq-eqb, eqb-true, false≢true}
use Rattle.std.proofs.lemmas.List.{ext_get_or, length-set, get_or-set_same, get_or-set_other}
use Rattle.std.proofs.lemmas.List.Folds.{list_any-append}
use Rattle.facet_graph.specs.Marks.{AreKept, IsUnmarked}
use Rattle.facet_graph.specs.Trail.{IsTrail, is_on}

or_true : (a : Bool) → (a || true) ≡ true
or_true true = refl
or_true false = refl

or_false : (a : Bool) → (a || false) ≡ a
or_false true = refl
or_false false = refl

or_assoc : (a b c : Bool) → ((a || b) || c) ≡ (a || (b || c))
or_assoc true b c = refl
or_assoc false b c = refl

neq_false : (n s : ℕ) → n ≢ s → (n == s) ≡ false
neq_false n s other = elim (cases_Bool (n == s)) [ inl same ↦ absurd (other (eqb-true n s same)) | inr differs ↦ differs ]

-- a node at the end of a list
is_on_push : (trail : List ℕ) (n s : ℕ) → is_on (trail ++ n ∷ []) s ≡ (is_on trail s || (n == s))
is_on_push trail n s = list_any-append (λ t. t == s) trail (n ∷ []) ∙ ap (λ b. is_on trail s || b) (or_false (n == s))

pub trail_begins : (old : List Bool) → IsTrail old old []
trail_begins old = record { len = refl; marks = λ s. sym (or_false (get_or old s false)); fresh = λ s on. absurd (false≢true on) }

-- a node is marked that wasn't
pub trail_grows : (old marks : List Bool) (trail : List ℕ) (n : ℕ) → n < length marks → IsUnmarked marks n → IsTrail old marks trail → IsTrail old (set marks n true) (trail ++ n ∷ [])
trail_grows old marks trail n below unmarked is = record { len = length-set marks n true ∙ is.len; marks = now; fresh = fresh }
  where
    now : (s : ℕ) → get_or (set marks n true) s false ≡ (get_or old s false || is_on (trail ++ n ∷ []) s)
    now s = elim (cases_eq s n) [
      | inl same ↦
          let here : get_or (set marks n true) s false ≡ true = ap (λ m. get_or (set marks n true) m false) same ∙ get_or-set_same marks n true false below in
          let on : is_on (trail ++ n ∷ []) s ≡ true = is_on_push trail n s ∙ ap (λ b. is_on trail s || b) (eq-eqb n s (sym same)) ∙ or_true (is_on trail s) in
          here ∙ sym (ap (λ b. get_or old s false || b) on ∙ or_true (get_or old s false))
      | inr other ↦
          let off : is_on (trail ++ n ∷ []) s ≡ is_on trail s = is_on_push trail n s ∙ ap (λ b. is_on trail s || b) (neq_false n s (λ same. other (sym same))) ∙ or_false (is_on trail s) in
          get_or-set_other marks n s true false other ∙ is.marks s ∙ ap (λ b. get_or old s false || b) (sym off)
    ]

    unmarked_old : (a b : Bool) → (a || b) ≡ false → a ≡ false
    unmarked_old true b none = none
    unmarked_old false b none = refl

    fresh : (s : ℕ) → is_on (trail ++ n ∷ []) s ≡ true → IsUnmarked old s
    fresh s on = elim (cases_eq s n) [
      | inl same ↦ subst (IsUnmarked old) (sym same) (unmarked_old (get_or old n false) (is_on trail n) (sym (is.marks n) ∙ unmarked))
      | inr other ↦ is.fresh s (sym (is_on_push trail n s ∙ ap (λ b. is_on trail s || b) (neq_false n s (λ same. other (sym same))) ∙ or_false (is_on trail s)) ∙ on)
    ]

pub trail_keeps : (old new : List Bool) (trail : List ℕ) → IsTrail old new trail → AreKept old new
trail_keeps old new trail is s marked = is.marks s ∙ ap (λ b. b || is_on trail s) marked

-- the marks of the nodes on the trail are taken away, and what is left are the marks as they were
pub taken_back : (old marks new : List Bool) (trail : List ℕ) → IsTrail old marks trail → length new ≡ length marks → ((s : ℕ) → get_or new s false ≡ (get_or marks s false && not (is_on trail s))) → new ≡ old
taken_back old marks new trail is len back = ext_get_or false new old (len ∙ is.len) (λ s below. go s)
  where
    off : (a b : Bool) → (b ≡ true → a ≡ false) → ((a || b) && not b) ≡ a
    off true true fresh = sym (fresh refl)
    off true false fresh = refl
    off false true fresh = refl
    off false false fresh = refl

    go : (s : ℕ) → get_or new s false ≡ get_or old s false
    go s = back s ∙ ap (λ b. b && not (is_on trail s)) (is.marks s) ∙ off (get_or old s false) (is_on trail s) (is.fresh s)

-- the answer of a search whose marks were taken back
pub back_where_found : {E P : Type 0} (answer : Result Bool E) → P → IfOk answer (λ found. OnTrue found P)
back_where_found (Ok true) back = back
back_where_found (Ok false) back = tt
back_where_found (Err error) back = tt

pub back_where_refused : {E P : Type 0} (answer : Result Bool E) → P → OnErr answer P
back_where_refused (Ok found) back = tt
back_where_refused (Err error) back = back

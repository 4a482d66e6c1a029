-- Whether a number is listed twice, and whether a byte lies in two spans.
use Rattle.std.proofs.Common.{◌≡◌, ℕ, ◌+◌, ◌<◌, ◌≤◌, Bool, true, false, cond, Any, List, [], ◌∷◌, refl, sym, ap, subst, ℤ, inl, inr, arith}
use Rattle.std.specs.List.{count_by, sum_by}
use Rattle.std.specs.Ordering.{int_eq}
use Rattle.std.proofs.lemmas.Bool.{cases_Bool, cases_lt}
use Rattle.std.proofs.lemmas.Bool.Decides.{Decides-int_eq}
use Rattle.std.proofs.lemmas.List.Sums.{sum_by-cons}
use Rattle.std.proofs.lemmas.Grind.{common_steps}
use Rattle.facet_graph.specs.Repeats.{HasRepeat, HaveOverlap, has_byte}
use Rattle.facet_graph.specs.declared.overlap.Span.{Span}
use Rattle.facet_verdict.proofs.Decisions.{Decided, HasBelow, alike, is_below, some_behind, some_below, some_here, some_of}

-- what an element counts
abbrev counts : Bool → ℕ
counts b = cond b 1 0

-- the first element counts beside those behind it
count_more : {X : Type 0} (p : X → Bool) (x : X) (xs : List X) → count_by p (x ∷ xs) ≡ counts (p x) + count_by p xs
count_more p x xs = sum_by-cons (λ y. counts (p y)) x xs

-- where an element is counted it is there
counted : {X : Type 0} (p : X → Bool) (xs : List X) → 0 < count_by p xs → Any (λ x. p x ≡ true) xs
counted p [] above = absurd (omega (arith, above))
counted p (x ∷ xs) above = elim (cases_Bool (p x)) [
  | inl is ↦ some_here (λ x. p x ≡ true) x xs is
  | inr lacks ↦ some_behind (λ x. p x ≡ true) x xs (counted p xs (let all = count_more p x xs in let none = ap counts lacks in omega (arith, above, all, none)))
]

module _ (values : List ℤ) where
  IsTwice : ℤ → Type 0
  IsTwice value = 1 < count_by (λ v. int_eq v value) values

  repeat_found : HasRepeat values → Any IsTwice values
  unfolding IsTwice
  repeat_found repeat =
      let (k, v, below, at, same) = counted (λ v. int_eq v repeat.value) values (omega (arith, repeat.twice)) in
      (k, v, below, at, subst (λ value. 1 < count_by (λ v. int_eq v value) values) (sym ((Decides-int_eq v repeat.value).0 same)) repeat.twice)

  decided_twice : (value : ℤ) → Decided (IsTwice value)
  unfolding IsTwice
  decided_twice value = is_below 1 (count_by (λ v. int_eq v value) values)

  repeat_from : Any IsTwice values → HasRepeat values
  unfolding IsTwice
  repeat_from (k, v, below, at, twice) = record { value = v; twice = twice }

  pub has_repeat : Decided (HasRepeat values)
  has_repeat = alike repeat_from repeat_found (some_of IsTwice decided_twice values)

-- the bytes of spans, one span behind the other
abbrev reach_of : List Span → ℕ
reach_of spans = sum_by (λ span. span.offset + span.size) spans

byte_before : (byte : ℕ) (span : Span) → has_byte byte span ≡ true → byte < span.offset + span.size
byte_before byte span has = grind (arith, common_steps, has)

byte_beyond : (byte : ℕ) (span : Span) → span.offset + span.size ≤ byte → has_byte byte span ≡ false
byte_beyond byte span beyond = elim (cases_Bool (has_byte byte span)) [ inl has ↦ let before = byte_before byte span has in absurd (omega (arith, before, beyond)) | inr lacks ↦ lacks ]

-- no span has a byte beyond them
none_beyond : (byte : ℕ) (spans : List Span) → reach_of spans ≤ byte → count_by (has_byte byte) spans ≡ 0
none_beyond byte [] beyond = refl
none_beyond byte (span ∷ spans) beyond =
    let whole = sum_by-cons (λ s. s.offset + s.size) span spans in
    let all = count_more (has_byte byte) span spans in
    let none = ap counts (byte_beyond byte span (omega (arith, beyond, whole))) in
    let behind = none_beyond byte spans (omega (arith, beyond, whole)) in
    omega (arith, all, none, behind)

module _ (spans : List Span) where
  IsShared : ℕ → Type 0
  IsShared byte = 1 < count_by (has_byte byte) spans

  decided_shared : (byte : ℕ) → Decided (IsShared byte)
  unfolding IsShared
  decided_shared byte = is_below 1 (count_by (has_byte byte) spans)

  overlap_from : HasBelow IsShared (reach_of spans) → HaveOverlap spans
  unfolding IsShared
  overlap_from some = record { byte = some.at; twice = some.holds }

  overlap_found : HaveOverlap spans → HasBelow IsShared (reach_of spans)
  unfolding IsShared
  overlap_found overlap = elim (cases_lt overlap.byte (reach_of spans)) [
    | inl below ↦ record { at = overlap.byte; below = below; holds = overlap.twice }
    | inr beyond ↦ let none = none_beyond overlap.byte spans beyond in let twice = overlap.twice in absurd (omega (arith, none, twice))
  ]

  pub have_overlap : Decided (HaveOverlap spans)
  have_overlap = alike overlap_from overlap_found (some_below IsShared decided_shared (reach_of spans))

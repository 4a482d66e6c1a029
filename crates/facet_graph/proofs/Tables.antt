-- Tables of heights while they are filled in.
use Rattle.std.proofs.Common.{◌≡◌, ℕ, zero, suc, ◌+◌, ◌<◌, ◌≤◌, ◌-◌, ◌↔◌, ◌++◌, Bool, true, false, List, All, length, get_or, replicate, set, refl, sym, ◌∙◌, ap, subst, inl, inr, arith}
use Rattle.std.specs.Bool.{OnFalse}
use Rattle.std.proofs.lemmas.Bool.{cases_eq, cases_lt}
use Rattle.std.proofs.lemmas.List.{get_or-append_right, get_or_append_left, get_or-set_same, get_or-set_other}
use Rattle.std.proofs.lemmas.List.Elements.{Contains-get_or}
use Rattle.facet_graph.specs.Height.{AreHeights, AreLow, HasHeight, IsHeightEntry, IsLow, IsTooHigh, IsWithin}
use Rattle.facet_graph.specs.Passes.{AreFilled, AreKnown, AreReady}
use Rattle.facet_graph.specs.Reach.{StaysWithin}

some_entry : (e : ℕ) → (e ≡ 0 → ⊥) → 0 < e
some_entry zero not = absurd (not refl)
some_entry (suc e) not = omega arith

-- only zeros are read from zeros
get_or_same : (m s d : ℕ) → get_or (replicate m d) s d ≡ d
get_or_same zero s d = refl
get_or_same (suc m) zero d = refl
get_or_same (suc m) (suc s) d = get_or_same m s d

module _ (edges : ℕ → List ℕ) where
  pub low_positive : (s h : ℕ) → IsLow edges s h → 0 < h
  unfolding IsWithin
  low_positive s zero low = absurd ((low.1 0).1 (omega arith))
  low_positive s (suc h) low = omega arith

  -- entries above 0 are low ones
  pub entry_low : (s e : ℕ) → IsHeightEntry edges s e → 0 < e → IsLow edges s e
  entry_low s zero entry some = absurd (omega arith)
  entry_low s (suc e) entry some = entry

  entry_high : (s e : ℕ) → IsHeightEntry edges s e → e ≡ 0 → IsTooHigh edges s
  entry_high s zero entry blank = entry
  entry_high s (suc e) entry blank = absurd (omega arith)

  -- an entry is 0 where the node is too high, and there alone
  pub zero_is_high : (s e : ℕ) → IsHeightEntry edges s e → (e ≡ 0) ↔ IsTooHigh edges s
  zero_is_high s e entry = (entry_high s e entry, λ high. none e entry high)
    where
      none : (e : ℕ) → IsHeightEntry edges s e → IsTooHigh edges s → e ≡ 0
      none zero entry high = refl
      none (suc e) entry high = absurd (high ((entry.1 100).1 entry.0))

  pub low_within : (s h : ℕ) → IsLow edges s h → IsWithin edges 100 s
  low_within s h low = (low.1 100).1 low.0

  pub low_is_entry : (s h : ℕ) → IsLow edges s h → IsHeightEntry edges s h
  low_is_entry s zero low = absurd (let some = low_positive s zero low in omega (arith, some))
  low_is_entry s (suc h) low = low

  -- a table of low heights with zeros behind
  module _ (front : List ℕ) (m : ℕ) (low : AreLow edges (length front) front) where
    pub longer_known : AreKnown edges (front ++ replicate m 0)
    longer_known s some = elim (cases_lt s (length front)) [
      | inl below ↦ subst (IsLow edges s) (sym (get_or_append_left front (replicate m 0) 0 s below)) (low s below)
      | inr above ↦ absurd (let blank = get_or-append_right front (replicate m 0) (length front) s 0 refl above ∙ get_or_same m (s - length front) 0 in omega (arith, some, blank))
    ]

    pub longer_before : (s : ℕ) → s < length front → 0 < get_or (front ++ replicate m 0) s 0
    longer_before s below = let some = low_positive s (get_or front s 0) (low s below) in omega (arith, some, get_or_append_left front (replicate m 0) 0 s below)

  module _ (table : List ℕ) (known : AreKnown edges table) where
    -- the height of a node, by the entries behind its edges
    pub height_step : (s h : ℕ) → 0 < h → All (λ t. 0 < get_or table t 0) (edges s) → ((k : ℕ) → (h ≤ k + 1) ↔ All (λ t. get_or table t 0 ≤ k) (edges s)) → HasHeight edges s h
    unfolding IsWithin
    height_step s h some there above zero = (λ within. absurd within, λ least. omega arith)
    height_step s h some there above (suc k) = (
      (λ within. let least = (above k).1 (λ i d below. ((known (get_or (edges s) i d) (there i d below)).1 k).0 (within i d below)) in omega (arith, least)),
      (λ least i d below. let h_least : h ≤ k + 1 = omega arith in ((known (get_or (edges s) i d) (there i d below)).1 k).1 ((above k).0 h_least i d below)),
    )

    module _ (n : ℕ) (stays : StaysWithin edges n) where
      ready_above : (k s : ℕ) → k < 100 → s < n → AreFilled edges n k table → IsWithin edges (suc k) s → AreReady table (edges s)
      unfolding IsWithin
      ready_above k s small below filled within i d under =
          let t = get_or (edges s) i d in
          let some = filled t (stays s t below (Contains-get_or (edges s) i d under)) (within i d under) in
          let least = ((known t some).1 k).0 (within i d under) in
          (some, omega (arith, least, small))

      -- where the nodes of heights up to k have their entries, so do those behind the edges of a node one higher
      pub behind_ready : (k s : ℕ) → k < 100 → s < n → AreFilled edges n k table → IsWithin edges (k + 1) s → AreReady table (edges s)
      behind_ready k s small below filled within = let next : k + 1 ≡ suc k = omega arith in ready_above k s small below filled (subst (λ m. IsWithin edges m s) next within)

      entry_is : AreFilled edges n 100 table → (s e : ℕ) → s < n → get_or table s 0 ≡ e → IsHeightEntry edges s e
      entry_is filled s zero below is = λ within. let some = filled s below within in omega (arith, some, is)
      entry_is filled s (suc e) below is = subst (IsLow edges s) is (known s (subst (λ h. 0 < h) (sym is) (omega arith)))

      -- where all that have a height up to 100 have their entries, the table is right
      pub heights_done : AreFilled edges n 100 table → AreHeights edges n table
      heights_done filled s below = entry_is filled s (get_or table s 0) below refl

  -- a table to which a pass adds nothing has all entries
  pub filled_up : (n k m : ℕ) (table : List ℕ) → k + m ≡ 100 → AreFilled edges n k table → ((j : ℕ) → j < 100 → AreFilled edges n j table → AreFilled edges n (j + 1) table) → AreFilled edges n 100 table
  filled_up n k zero table upto filled step = subst (λ j. AreFilled edges n j table) (omega (arith, upto)) filled
  filled_up n k (suc m) table upto filled step = filled_up n (k + 1) m table (omega (arith, upto)) (step k (omega (arith, upto)) filled) step

  pub filled_none : (n : ℕ) (table : List ℕ) → AreFilled edges n 0 table
  unfolding IsWithin
  filled_none n table s below within = absurd within

  -- one entry more
  pub known_set : (table : List ℕ) (s h : ℕ) → s < length table → AreKnown edges table → IsLow edges s h → AreKnown edges (set table s h)
  known_set table s h below known is t some = elim (cases_eq t s) [
    | inl same ↦ let entry = ap (λ u. get_or (set table s h) u 0) same ∙ get_or-set_same table s h 0 below in
        let P : ℕ → ℕ → Type 0 = IsLow edges in subst (P t) (sym entry) (subst (λ u. P u h) (sym same) is)
    | inr other ↦ let entry = get_or-set_other table s t h 0 other in
        subst (IsLow edges t) (sym entry) (known t (subst (λ e. 0 < e) entry some))
  ]

pub kept_set : (table : List ℕ) (s h : ℕ) → get_or table s 0 ≡ 0 → (t : ℕ) → 0 < get_or table t 0 → get_or (set table s h) t 0 ≡ get_or table t 0
kept_set table s h blank t some = elim (cases_eq t s) [
  | inl same ↦ let is = ap (λ u. get_or table u 0) same ∙ blank in absurd (omega (arith, is, some))
  | inr other ↦ get_or-set_other table s t h 0 other
]

pub filled_kept : (edges : ℕ → List ℕ) (n k : ℕ) (old new : List ℕ) → ((s : ℕ) → 0 < get_or old s 0 → get_or new s 0 ≡ get_or old s 0) → AreFilled edges n k old → AreFilled edges n k new
filled_kept edges n k old new kept filled s below within = let some = filled s below within in subst (λ e. 0 < e) (sym (kept s some)) some

-- nothing was added so far, nor by one step more
pub still_same : (added : Bool) (first old new : List ℕ) → OnFalse added (old ≡ first) → new ≡ old → OnFalse added (new ≡ first)
still_same true first old new so_far same = so_far
still_same false first old new so_far same = same ∙ so_far

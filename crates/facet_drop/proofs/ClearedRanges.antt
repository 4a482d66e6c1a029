-- Several ranges of a block that were emptied one after another.
use Rattle.std.proofs.Common.{◌≡◌, ℕ, ◌+◌, ◌-◌, ◌<◌, ◌≤◌, ◌⊎◌, inl, inr, List, [], ◌∷◌, All, None, map, refl, ◌∙◌, subst, arith}
use Rattle.std.proofs.lemmas.Bool.{cases_lt}
use Rattle.std.proofs.lemmas.List.Elements.{All-cons, All-head, All-map, All-nil, All-tail, All-weaker}
use Rattle.facet_block.specs.Block.{item_at}
use Rattle.facet_block.specs.Span.{IsBeside, IsCleared, IsEmptyIn, IsWithin, Span, span}
use Rattle.facet_block.specs.declared.block.Block.{Block}
use Rattle.facet_drop.specs.Cleared.{AreCleared}

-- an offset lies in a range or beside it
pub in_or_beside : (i : ℕ) (range : Span) → IsWithin i range ⊎ IsBeside i range
in_or_beside i range = elim (cases_lt i range.start) [
  | inl before ↦ inr (inl before)
  | inr from ↦ elim (cases_lt i (range.start + range.len)) [ inl to ↦ inl (from, to) | inr behind ↦ inr (inr behind) ]
]

module _ {X : Type 0} where
  -- where several ranges are emptied, an offset has nothing or lies beside all
  empty_or_beside : (b : Block X) (i : ℕ) (ranges : List Span) → All (IsEmptyIn b) ranges → (item_at b i ≡ None) ⊎ All (IsBeside i) ranges
  empty_or_beside b i [] empty = inr (All-nil (IsBeside i))
  empty_or_beside b i (range ∷ ranges) empty = elim (in_or_beside i range) [
    | inl within ↦ inl (All-head (IsEmptyIn b) range ranges empty i within)
    | inr beside ↦ elim (empty_or_beside b i ranges (All-tail (IsEmptyIn b) range ranges empty)) [
      | inl nothing ↦ inl nothing
      | inr all ↦ inr (All-cons (IsBeside i) range ranges beside all)
    ]
  ]

  -- before any is
  pub none_cleared : (b : Block X) → AreCleared b b []
  none_cleared b = record { size = refl; empty = All-nil (IsEmptyIn b); outside = λ i beside. refl }

  -- a range, and then several
  pub cleared_before : (b next end : Block X) (range : Span) (ranges : List Span) → IsCleared b next range → AreCleared next end ranges → AreCleared b end (range ∷ ranges)
  cleared_before b next end range ranges one rest = record {
    size = rest.size ∙ one.size;
    empty = All-cons (IsEmptyIn end) range ranges
        (λ i within. elim (empty_or_beside end i ranges rest.empty) [ inl nothing ↦ nothing | inr beside ↦ rest.outside i beside ∙ one.empty i within ])
        rest.empty;
    outside = λ i beside. rest.outside i (All-tail (IsBeside i) range ranges beside) ∙ one.outside i (All-head (IsBeside i) range ranges beside);
  }

  still_empty : (b next : Block X) (range other : Span) → IsCleared b next range → IsEmptyIn b other → IsEmptyIn next other
  still_empty b next range other one empty i within = elim (in_or_beside i range) [
    | inl inside ↦ one.empty i inside
    | inr beside ↦ one.outside i beside ∙ empty i within
  ]

  -- several, and then one
  pub cleared_after : (b next end : Block X) (range : Span) (ranges : List Span) → AreCleared b next ranges → IsCleared next end range → AreCleared b end (range ∷ ranges)
  cleared_after b next end range ranges first one = record {
    size = one.size ∙ first.size;
    empty = All-cons (IsEmptyIn end) range ranges one.empty
        (All-weaker (IsEmptyIn next) (IsEmptyIn end) (λ other empty. still_empty next end range other one empty) ranges first.empty);
    outside = λ i beside. one.outside i (All-head (IsBeside i) range ranges beside) ∙ first.outside i (All-tail (IsBeside i) range ranges beside);
  }

  -- a single range
  pub one_cleared : (b next : Block X) (range : Span) → IsCleared b next range → AreCleared b next (range ∷ [])
  one_cleared b next range one = cleared_before b next next range [] one (none_cleared next)

-- a span that is counted from an offset on
abbrev pub from_offset : ℕ → Span → Span
from_offset at range = span (at + range.start) range.len

beside_from : (at i : ℕ) (range : Span) → at ≤ i → IsBeside i (from_offset at range) → IsBeside (i - at) range
beside_from at i range from (inl before) = inl (omega (arith, before, from))
beside_from at i range from (inr behind) = inr (omega (arith, behind, from))

all_beside_from : (at i : ℕ) (ranges : List Span) → at ≤ i → All (IsBeside i) (map (from_offset at) ranges) → All (IsBeside (i - at)) ranges
all_beside_from at i [] from beside = All-nil (IsBeside (i - at))
all_beside_from at i (range ∷ ranges) from beside =
    All-cons (IsBeside (i - at)) range ranges (beside_from at i range from (All-head (IsBeside i) (from_offset at range) (map (from_offset at) ranges) beside))
    (all_beside_from at i ranges from (All-tail (IsBeside i) (from_offset at range) (map (from_offset at) ranges) beside))

beside_inside : (at size i : ℕ) (range : Span) → range.start + range.len ≤ size → IsBeside i (span at size) → IsBeside i (from_offset at range)
beside_inside at size i range ends (inl before) = inl (omega arith)
beside_inside at size i range ends (inr behind) = inr (omega (arith, ends, behind))

-- where nothing lies in a range beside some ranges inside it, and these are emptied, the whole range is
module _ {X : Type 0} (b end : Block X) (at size : ℕ) (ranges : List Span) where
  pub whole_cleared : ((i : ℕ) → i < size → All (IsBeside i) ranges → item_at b (at + i) ≡ None) → All (λ range. range.start + range.len ≤ size) ranges
      → AreCleared b end (map (from_offset at) ranges) → IsCleared b end (span at size)
  whole_cleared alone inside cleared = record {
    size = cleared.size;
    empty = λ i within. elim (empty_or_beside end i (map (from_offset at) ranges) cleared.empty) [
      | inl nothing ↦ nothing
      | inr beside ↦
          let there : at + (i - at) ≡ i = omega (arith, within.0) in
          cleared.outside i beside ∙ subst (λ k. item_at b k ≡ None) there (alone (i - at) (omega (arith, within.0, within.1)) (all_beside_from at i ranges within.0 beside))
    ];
    outside = λ i beside.
        cleared.outside i
        (All-map (IsBeside i) (from_offset at) ranges
        (All-weaker (λ range. range.start + range.len ≤ size) (λ range. IsBeside i (from_offset at range)) (λ range ends. beside_inside at size i range ends beside) ranges inside));
  }

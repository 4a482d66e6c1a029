-- Spans in the order of their offsets, one after another: what is known of those so far.
use Rattle.std.proofs.Common.{◌≡◌, ℕ, ◌+◌, ◌-◌, ◌<◌, ◌≤◌, true, false, List, get_or, length, take, refl, ◌∙◌, subst, inl, inr, arith}
use Rattle.std.specs.List.{count_by}
use Rattle.std.specs.List.Sorted.{IsNonDecreasingBy, IsPermutation}
use Rattle.std.proofs.lemmas.Bool.{cases_Bool}
use Rattle.std.proofs.lemmas.Grind.{common_steps}
use Rattle.std.proofs.lemmas.List.{get_or_default, take_all}
use Rattle.std.proofs.lemmas.List.Sums.{count_by_more_no, count_by_more_yes}
use Rattle.facet_graph.specs.Repeats.{HaveOverlap, has_byte}
use Rattle.facet_graph.specs.declared.overlap.Span.{Span}
use Rattle.facet_graph.proofs.Tallies.{count_moved, count_take}

byte_in : (b : ℕ) (span : Span) → has_byte b span ≡ true → (span.offset ≤ b) × (b < span.offset + span.size)
byte_in b span has = grind (arith, common_steps, has)

in_byte : (b : ℕ) (span : Span) → span.offset ≤ b → b < span.offset + span.size → has_byte b span ≡ true
in_byte b span from to = grind (arith, common_steps, from, to)

byte_out : (b : ℕ) (span : Span) → (span.offset ≤ b → b < span.offset + span.size → ⊥) → has_byte b span ≡ false
byte_out b span out = elim (cases_Bool (has_byte b span)) [ inl has ↦ absurd (out (byte_in b span has).0 (byte_in b span has).1) | inr lacks ↦ lacks ]

-- no byte lies in two of the first i spans, each byte of `last` lies in one of them and none behind it, and no later span begins before `last`
pub record IsApart (xs : List Span) (i : ℕ) (last : Span) : Type 0 where
  pub once : (b : ℕ) → count_by (has_byte b) (take i xs) ≤ 1
  pub counted : (b : ℕ) → has_byte b last ≡ true → 0 < count_by (has_byte b) (take i xs)
  pub behind : (b : ℕ) → last.offset + last.size ≤ b → count_by (has_byte b) (take i xs) ≡ 0
  pub order : (j : ℕ) (d : Span) → i ≤ j → j < length xs → last.offset ≤ (get_or xs j d).offset

module _ (xs : List Span) (sorted : IsNonDecreasingBy (λ (span : Span). span.offset) xs) where
  pub apart_begins : (none : Span) → none.offset ≡ 0 → none.size ≡ 0 → IsApart xs 0 none
  apart_begins none first empty = record {
    once = λ b. omega arith;
    counted = λ b has. let at = byte_in b none has in absurd (omega (arith, at.0, at.1, empty));
    behind = λ b from. refl;
    order = λ j d from below. omega (arith, first);
  }

  module _ (i : ℕ) (last d : Span) (apart : IsApart xs i last) (below : i < length xs) where
    -- the next span begins within `last`
    pub overlap_here : 0 < (get_or xs i d).size → (get_or xs i d).offset - last.offset < last.size → HaveOverlap xs
    overlap_here some within =
        let y = get_or xs i d in
        let from = apart.order i d (omega arith) below in
        let one = apart.counted y.offset (in_byte y.offset last from (omega (arith, from, within))) in
        let two = count_by_more_yes (has_byte y.offset) xs i d below (in_byte y.offset y (omega arith) (omega (arith, some))) in
        record { byte = y.offset; twice = omega (arith, one, two, count_take (has_byte y.offset) xs (i + 1)) }

    -- it is empty
    pub apart_empty : (get_or xs i d).size ≤ 0 → IsApart xs (i + 1) last
    apart_empty empty =
        let same : (b : ℕ) → count_by (has_byte b) (take (i + 1) xs) ≡ count_by (has_byte b) (take i xs) = λ b. count_by_more_no (has_byte b) xs i d below (byte_out b (get_or xs i d) (λ from to. omega (arith, from, to, empty))) in
        record {
          once = λ b. let upto = apart.once b in omega (arith, upto, same b);
          counted = λ b has. let some = apart.counted b has in omega (arith, some, same b);
          behind = λ b from. same b ∙ apart.behind b from;
          order = λ j e from under. apart.order j e (omega (arith, from)) under;
        }

    -- it begins behind `last`, and takes its place
    pub apart_next : last.size ≤ (get_or xs i d).offset - last.offset → IsApart xs (i + 1) (get_or xs i d)
    apart_next far = record {
      once = λ b. elim (cases_Bool (has_byte b y)) [
        | inl has ↦ let none = apart.behind b (beyond b (byte_in b y has).0) in let one = count_by_more_yes (has_byte b) xs i d below has in omega (arith, none, one)
        | inr lacks ↦ let same = count_by_more_no (has_byte b) xs i d below lacks in let upto = apart.once b in omega (arith, same, upto)
      ];
      counted = λ b has. let one = count_by_more_yes (has_byte b) xs i d below has in omega (arith, one);
      behind = λ b from. count_by_more_no (has_byte b) xs i d below (byte_out b y (λ _ to. omega (arith, from, to))) ∙ apart.behind b (beyond b (omega (arith, from)));
      order = λ j e from under. later j e from under;
    }
      where
        y : Span
        y = get_or xs i d

        beyond : (b : ℕ) → (get_or xs i d).offset ≤ b → last.offset + last.size ≤ b
        beyond b from = let begins = apart.order i d (omega arith) below in omega (arith, begins, far, from)

        later : (j : ℕ) (e : Span) → i + 1 ≤ j → j < length xs → (get_or xs i d).offset ≤ (get_or xs j e).offset
        later j e from under = let rises = sorted i j d (omega (arith, from)) under in subst (λ (z : Span). (get_or xs i d).offset ≤ z.offset) (get_or_default xs j d e under) rises

  pub none_overlap : (i : ℕ) (last : Span) → IsApart xs i last → length xs ≤ i → ¬ HaveOverlap xs
  none_overlap i last apart all overlap = let upto = subst (λ ys. count_by (has_byte overlap.byte) ys ≤ 1) (take_all i xs all) (apart.once overlap.byte) in omega (arith, upto, overlap.twice)

-- whether bytes are shared doesn't depend on the order
pub overlap_moved : (xs ys : List Span) → IsPermutation xs ys → HaveOverlap ys → HaveOverlap xs
overlap_moved xs ys moved overlap = record { byte = overlap.byte; twice = let same = count_moved (has_byte overlap.byte) xs ys moved in omega (arith, same, overlap.twice) }

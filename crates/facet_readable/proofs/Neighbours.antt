-- Where neighbours in a list ascend, all do.
use Rattle.std.proofs.Common.{◌≡◌, ℕ, zero, suc, ◌+◌, ◌-◌, ◌<◌, ◌≤◌, List, [], ◌∷◌, All, AllPairs, IsSomeAnd, Some, length, map, slice_get, get_or, refl, sym, ap, subst, subst₂, inl, inr, arith}
use Rattle.std.proofs.lemmas.Bool.{cases_lt}
use Rattle.std.proofs.lemmas.List.{length-map}
use Rattle.std.proofs.lemmas.List.Elements.{All-head, All-tail}
use Rattle.std.proofs.lemmas.Option.{slice_get_within}

-- what holds of each item holds of the one at an index
pub all_found : {A : Type 0} (P : A → Type 0) (xs : List A) → All P xs → (i : ℕ) → i < length xs → IsSomeAnd (slice_get xs i) P
all_found P [] all i below = absurd (omega arith)
all_found P (x ∷ xs) all zero below = All-head P x xs all
all_found P (x ∷ xs) all (suc i) below = all_found P xs (All-tail P x xs all) i (omega arith)

-- where an item is found the index is below the length
pub within : {A : Type 0} (P : A → Type 0) (xs : List A) (i : ℕ) → IsSomeAnd (slice_get xs i) P → i < length xs
within P [] i found = absurd found
within P (x ∷ xs) zero found = omega arith
within P (x ∷ xs) (suc i) found = omega (arith, within P xs i found)

-- the item at an index below the length
pub record Found {A : Type 0} (xs : List A) (i : ℕ) : Type 0 where
  pub item : A
  pub is : slice_get xs i ≡ Some item

pub found_below : {A : Type 0} (xs : List A) (i : ℕ) → i < length xs → Found xs i
found_below [] i below = absurd (omega arith)
found_below (x ∷ xs) zero below = record { item = x; is = refl }
found_below (x ∷ xs) (suc i) below = let rest = found_below xs i (omega arith) in record { item = rest.item; is = rest.is }

mapped_at : {A B : Type 0} (f : A → B) (xs : List A) (i : ℕ) (d : B) (x : A) → slice_get xs i ≡ Some x → get_or (map f xs) i d ≡ f x
mapped_at f [] i d x is = absurd (cc)
mapped_at f (y ∷ ys) zero d x is = let same : y ≡ x = cc in ap f same
mapped_at f (y ∷ ys) (suc i) d x is = mapped_at f ys i d x is

module _ {A : Type 0} (R : A → A → Type 0) where
  -- of the items before an index, each is in the relation with the next
  pub record NeighboursAscend (xs : List A) (n : ℕ) : Type 0 where
    pub each : (i : ℕ) (x y : A) → suc i < n → slice_get xs i ≡ Some x → slice_get xs (suc i) ≡ Some y → R x y

  pub no_neighbours : (xs : List A) → NeighboursAscend xs 1
  no_neighbours xs = record { each = λ i x y below e f. absurd (omega (arith, below)) }

  pub fewer : (xs : List A) (few many : ℕ) → few ≤ many → NeighboursAscend xs many → NeighboursAscend xs few
  fewer xs few many most all = record { each = λ i x y below e f. all.each i x y (omega (arith, below, most)) e f }

  pub one_more : (xs : List A) (n : ℕ) (x y : A) → 1 ≤ n → NeighboursAscend xs n → slice_get xs (n - 1) ≡ Some x → slice_get xs n ≡ Some y → R x y → NeighboursAscend xs (n + 1)
  one_more xs n x y some before here next less = record { each = at }
    where
      at : (i : ℕ) (a b : A) → suc i < n + 1 → slice_get xs i ≡ Some a → slice_get xs (suc i) ≡ Some b → R a b
      at i a b below e f = elim (cases_lt (suc i) n) [
        | inl under ↦ before.each i a b under e f
        | inr from ↦
            let same : n - 1 ≡ i = omega (arith, from, below) in
            let also : n ≡ suc i = omega (arith, from, below) in
            let here_too = subst (λ k. slice_get xs k ≡ Some x) same here in
            let next_too = subst (λ k. slice_get xs k ≡ Some y) also next in
            let first : x ≡ a = cc in
            let second : y ≡ b = cc in
            subst₂ R first second less
      ]

  module _ {B : Type 0} (S : B → B → Type 0) (f : A → B) (xs : List A) where
    module _ (there : (i : ℕ) (x y : A) → slice_get xs i ≡ Some x → R x y → S (f x) (f y))
        (chain : (i j k : ℕ) (x y z : A) → slice_get xs i ≡ Some x → slice_get xs j ≡ Some y → slice_get xs k ≡ Some z → S (f x) (f y) → S (f y) (f z) → S (f x) (f z)) where
      ascend_to : NeighboursAscend xs (length xs) → (i j : ℕ) (x y : A) → i < j → j < length xs → slice_get xs i ≡ Some x → slice_get xs j ≡ Some y → S (f x) (f y)
      ascend_to all i zero x y before below e e' = absurd (omega (arith, before))
      ascend_to all i (suc j) x y before below e e' = elim (cases_lt i j) [
        | inl under ↦
            let between = found_below xs j (omega (arith, below)) in
            let rest = there j between.item y between.is (all.each j between.item y below between.is e') in
            chain i j (suc j) x between.item y e between.is e' (ascend_to all i j x between.item under (omega (arith, below)) e between.is) rest
        | inr from ↦
            let same : j ≡ i = omega (arith, from, before) in
            let here = subst (λ k. slice_get xs (suc k) ≡ Some y) same e' in
            there i x y e (all.each i x y (omega (arith, below, same)) e here)
      ]

      pub all_ascend : NeighboursAscend xs (length xs) → AllPairs S (map f xs)
      all_ascend all i j d before below =
          let same = length-map xs f in
          let first = found_below xs i (omega (arith, before, below, same)) in
          let second = found_below xs j (omega (arith, below, same)) in
          subst₂ S (sym (mapped_at f xs i d first.item first.is)) (sym (mapped_at f xs j d second.item second.is))
          (ascend_to all i j first.item second.item before (omega (arith, below, same)) first.is second.is)

    -- two items of a list that ascends
    pub two_ascend : AllPairs S (map f xs) → (i j : ℕ) (x y : A) → i < j → slice_get xs i ≡ Some x → slice_get xs j ≡ Some y → S (f x) (f y)
    two_ascend all i j x y before e e' =
        let below = slice_get_within xs j y e' in
        subst₂ S (mapped_at f xs i (f x) x e) (mapped_at f xs j (f x) y e') (all i j (f x) before (omega (arith, below, length-map xs f)))

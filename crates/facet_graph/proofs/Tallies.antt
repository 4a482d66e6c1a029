-- How often something holds in a list, one element after another.
use Rattle.std.proofs.Common.{◌≡◌, ℕ, ◌+◌, ◌<◌, ◌≤◌, Bool, true, false, ◌||◌, cond, not, List, [], ◌∷◌, take, refl, sym, arith}
use Rattle.std.specs.List.{count_by, list_any}
use Rattle.std.specs.List.Sorted.{IsPermutation}
use Rattle.std.proofs.lemmas.Bool.{false≢true}
use Rattle.std.proofs.lemmas.List.Sorted.{sum_by-IsPermutation}
use Rattle.std.proofs.lemmas.List.Sums.{sum_by-cons, sum_by-take-le}

module _ {X : Type 0} (p : X → Bool) where
  count_cons : (x : X) (xs : List X) → count_by p (x ∷ xs) ≡ cond (p x) 1 0 + count_by p xs
  count_cons x xs = sum_by-cons (λ y. cond (p y) 1 0) x xs

  pub count_take : (xs : List X) (i : ℕ) → count_by p (take i xs) ≤ count_by p xs
  count_take xs i = sum_by-take-le (λ y. cond (p y) 1 0) xs i

  pub count_moved : (xs ys : List X) → IsPermutation xs ys → count_by p ys ≡ count_by p xs
  count_moved xs ys moved = sum_by-IsPermutation (λ y. cond (p y) 1 0) xs ys moved

  pub any_counts : (xs : List X) → list_any p xs ≡ true → 0 < count_by p xs
  any_counts [] any = absurd (false≢true any)
  any_counts (x ∷ xs) any = go (p x) (count_by p (x ∷ xs)) any (count_cons x xs) (λ rest. any_counts xs rest)
    where
      go : (b : Bool) (n : ℕ) → (b || list_any p xs) ≡ true → n ≡ cond b 1 0 + count_by p xs → (list_any p xs ≡ true → 0 < count_by p xs) → 0 < n
      go true n any is rest = omega (arith, is)
      go false n any is rest = let some = rest any in omega (arith, is, some)

  pub none_counts : (xs : List X) → list_any p xs ≡ false → count_by p xs ≡ 0
  none_counts [] none = refl
  none_counts (x ∷ xs) none = go (p x) (count_by p (x ∷ xs)) none (count_cons x xs) (λ rest. none_counts xs rest)
    where
      go : (b : Bool) (n : ℕ) → (b || list_any p xs) ≡ false → n ≡ cond b 1 0 + count_by p xs → (list_any p xs ≡ false → count_by p xs ≡ 0) → n ≡ 0
      go true n none is rest = absurd (false≢true (sym none))
      go false n none is rest = let zero_left = rest none in omega (arith, is, zero_left)

pub from_not : (b : Bool) → false ≡ not b → b ≡ true
from_not true same = refl
from_not false same = same

pub to_not : (b : Bool) → true ≡ not b → b ≡ false
to_not true same = same
to_not false same = refl

pub cond_or : (b a : Bool) → cond b true a ≡ (a || b)
cond_or true true = refl
cond_or true false = refl
cond_or false true = refl
cond_or false false = refl

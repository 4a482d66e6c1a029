-- The front of a list has the same elements.
use Rattle.std.proofs.Common.{◌≡◌, ℕ, zero, suc, ◌<◌, List, [], ◌∷◌, ◌++◌, length, take, slice_get, refl, arith}

pub slice_get_take : {A : Type 0} (n : ℕ) (xs : List A) (s : ℕ) → s < n → slice_get (take n xs) s ≡ slice_get xs s
slice_get_take zero xs s below = absurd (omega arith)
slice_get_take (suc n) [] s below = refl
slice_get_take (suc n) (x ∷ xs) zero below = refl
slice_get_take (suc n) (x ∷ xs) (suc s) below = slice_get_take n xs s (omega arith)

pub slice_get_append : {A : Type 0} (xs ys : List A) (s : ℕ) → s < length xs → slice_get (xs ++ ys) s ≡ slice_get xs s
slice_get_append [] ys s below = absurd (omega arith)
slice_get_append (x ∷ xs) ys zero below = refl
slice_get_append (x ∷ xs) ys (suc s) below = slice_get_append xs ys s (omega arith)

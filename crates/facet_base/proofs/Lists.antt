-- What lists have at an index, and how their beginnings and rests grow.
use Rattle.std.proofs.Common.{◌≡◌, ◌∙◌, refl, sym, ap, subst, ℕ, zero, suc, ◌+◌, ◌<◌, arith, Bool, cond, List, [], ◌∷◌, ◌++◌, length, take, drop, slice_get, All, count_by, None, Some}
use Rattle.std.proofs.lemmas.List.{length-drop, drop_more, take_more}
use Rattle.std.proofs.lemmas.List.Sums.{sum_by-append}
use Rattle.std.proofs.lemmas.Option.{slice_get_within, get_or_from_slice_get}

-- a list that goes on keeps what it had
pub slice_get_front : {A : Type 0} (xs ys : List A) (i : ℕ) → i < length xs → slice_get (xs ++ ys) i ≡ slice_get xs i
slice_get_front [] ys i below = absurd (omega arith)
slice_get_front (x ∷ xs) ys zero below = refl
slice_get_front (x ∷ xs) ys (suc i) below = slice_get_front xs ys i (omega arith)

-- a beginning has what the list has
pub slice_get_take : {A : Type 0} (n : ℕ) (xs : List A) (i : ℕ) → i < n → slice_get (take n xs) i ≡ slice_get xs i
slice_get_take zero xs i below = absurd (omega arith)
slice_get_take (suc n) [] i below = refl
slice_get_take (suc n) (x ∷ xs) zero below = refl
slice_get_take (suc n) (x ∷ xs) (suc i) below = slice_get_take n xs i (omega arith)

-- the rest from an index on begins with what stands there
pub slice_get_drop : {A : Type 0} (xs : List A) (i : ℕ) → slice_get xs i ≡ slice_get (drop i xs) 0
slice_get_drop [] zero = refl
slice_get_drop [] (suc i) = refl
slice_get_drop (x ∷ xs) zero = refl
slice_get_drop (x ∷ xs) (suc i) = slice_get_drop xs i

-- below the length there is an element
pub some_there : {A : Type 0} (xs : List A) (i : ℕ) → i < length xs → None ≡ slice_get xs i → ⊥
some_there [] i below none = omega arith
some_there (x ∷ xs) zero below none = cc
some_there (x ∷ xs) (suc i) below none = some_there xs i (omega arith) none

-- what holds of all elements holds of the one at an index
pub All_at : {A : Type 0} (P : A → Type 0) (xs : List A) (i : ℕ) (x : A) → All P xs → slice_get xs i ≡ Some x → P x
All_at P xs i x all here = subst P (get_or_from_slice_get xs i x x here) (all i x (slice_get_within xs i x here))

-- the next element joins the beginning, and leaves the rest
pub next_at : {A : Type 0} (xs : List A) (k : ℕ) (x : A) (ys : List A) → drop k xs ≡ x ∷ ys → (take (k + 1) xs ≡ take k xs ++ x ∷ []) × (drop (k + 1) xs ≡ ys)
next_at xs k x ys e =
    let within : k < length xs = omega (arith, length-drop k xs, ap length e) in
    let more = sym (drop_more xs k x within) ∙ e in
    let last = take_more xs k x within in
    (cc, cc)

-- two lists one behind the other are counted one by one
pub count_by_append : {A : Type 0} (p : A → Bool) (xs ys : List A) → count_by p (xs ++ ys) ≡ count_by p xs + count_by p ys
count_by_append p xs ys = sum_by-append (λ y. cond (p y) 1 0) xs ys

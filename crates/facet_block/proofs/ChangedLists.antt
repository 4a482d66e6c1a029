-- Lists whose items are changed one after another.
use Rattle.std.proofs.Common.{◌≡◌, ℕ, zero, suc, List, [], ◌∷◌, ◌++◌, map, take, drop, length, slice_get, slice_set, Some, refl, ap}

-- the list whose first i items have been changed by f
abbrev pub changed_to : {A : Type 0} → (A → A) → List A → ℕ → List A
changed_to f xs i = map f (take i xs) ++ drop i xs

module _ {A : Type 0} (f : A → A) where
  -- the item at index i is still the old one
  pub get_changed_to : (xs : List A) (i : ℕ) → slice_get (changed_to f xs i) i ≡ slice_get xs i
  get_changed_to [] zero = refl
  get_changed_to [] (suc i) = refl
  get_changed_to (x ∷ xs) zero = refl
  get_changed_to (x ∷ xs) (suc i) = get_changed_to xs i

  -- one item more is changed
  pub set_changed_to : (xs : List A) (i : ℕ) (x : A) → slice_get xs i ≡ Some x → slice_set (changed_to f xs i) i (f x) ≡ changed_to f xs (suc i)
  set_changed_to [] zero x here = absurd (cc)
  set_changed_to [] (suc i) x here = absurd (cc)
  set_changed_to (y ∷ xs) zero x here = let same : y ≡ x = cc in rw same refl
  set_changed_to (y ∷ xs) (suc i) x here = ap (λ ys. f y ∷ ys) (set_changed_to xs i x here)

  -- all items are changed
  pub changed_to_all : (xs : List A) → changed_to f xs (length xs) ≡ map f xs
  changed_to_all [] = refl
  changed_to_all (x ∷ xs) = ap (λ ys. f x ∷ ys) (changed_to_all xs)

-- Lists of words: each piece is one, and each is written as its piece.
use Rattle.std.proofs.Common.{◌≡◌, ℕ, List, [], ◌∷◌, ◌++◌, map, Option, None, Some, option_map, refl, ap, ◌∙◌, subst}
use Rattle.std.specs.List.{AllByRecursion}
use Rattle.std.specs.Option.{option_and_then}
use Rattle.std.proofs.lemmas.List.{append_assoc}
use Rattle.std.proofs.lemmas.Option.{same_Some, option_and_then_some}
use Rattle.facet_words.proofs.Numbers.{map_some}
use Rattle.facet_declaration.specs.Cuts.{read_each}

-- pieces that were read as words are what these words are written as
pub each_spelled : {A : Type 0} (of : List ℕ → Option A) (spell : A → List ℕ) (Is : A → Type 0) → ((piece : List ℕ) (x : A) → of piece ≡ Some x → Is x × (spell x ≡ piece))
    → (pieces : List (List ℕ)) (xs : List A) → read_each of pieces ≡ Some xs → AllByRecursion Is xs × (map spell xs ≡ pieces)
each_spelled of spell Is one [] xs e = subst (λ ys. AllByRecursion Is ys × (map spell ys ≡ [])) (same_Some _ _ e) (tt, refl)
each_spelled of spell Is one (piece ∷ pieces) xs e =
    option_and_then_some _ (of piece) xs e
    (λ x found then.
    let more = map_some (λ ys. x ∷ ys) (read_each of pieces) xs then in
    let here = one piece x found in
    let rest = each_spelled of spell Is one pieces more.0 more.1 in
    subst (λ ys. AllByRecursion Is ys × (map spell ys ≡ piece ∷ pieces)) more.2 ((here.0, rest.0), λ i. here.1 i ∷ rest.1 i))

-- what words are written as is read as these words
pub each_read : {A : Type 0} (of : List ℕ → Option A) (spell : A → List ℕ) (Is : A → Type 0) → ((x : A) → Is x → of (spell x) ≡ Some x)
    → (xs : List A) → AllByRecursion Is xs → read_each of (map spell xs) ≡ Some xs
each_read of spell Is one [] h = refl
each_read of spell Is one (x ∷ xs) h =
    ap (option_and_then (λ y. option_map (λ ys. y ∷ ys) (read_each of (map spell xs)))) (one x h.0) ∙ ap (option_map (λ ys. x ∷ ys)) (each_read of spell Is one xs h.1)

-- a word behind those that were read
pub each_more : {A : Type 0} (of : List ℕ → Option A) (front : List A) (piece : List ℕ) (pieces : List (List ℕ)) (x : A) → Some x ≡ of piece
    → option_map (λ more. (front ++ (x ∷ [])) ++ more) (read_each of pieces) ≡ option_map (λ more. front ++ more) (read_each of (piece ∷ pieces))
each_more {A = A} of front piece pieces x here =
    shifted (read_each of pieces) ∙ ap (λ o. option_map (λ more. front ++ more) (option_and_then (λ y. option_map (λ ys. y ∷ ys) (read_each of pieces)) o)) here
  where
    shifted : (o : Option (List A)) → option_map (λ more. (front ++ (x ∷ [])) ++ more) o ≡ option_map (λ more. front ++ more) (option_map (λ ys. x ∷ ys) o)
    shifted None = refl
    shifted (Some more) = ap Some (append_assoc front (x ∷ []) more)

-- a piece that is nothing
pub each_less : {A : Type 0} (of : List ℕ → Option A) (front : List A) (piece : List ℕ) (pieces : List (List ℕ)) → None ≡ of piece
    → None ≡ option_map (λ more. front ++ more) (read_each of (piece ∷ pieces))
each_less of front piece pieces here = ap (λ o. option_map (λ more. front ++ more) (option_and_then (λ y. option_map (λ ys. y ∷ ys) (read_each of pieces)) o)) here

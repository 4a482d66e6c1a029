-- What an output of `Write` holds once a text was written to it.
use Rattle.std.specs.Prelude.{◌≡◌, ℕ, List, ◌++◌, Result, MatchResult}

-- a list begins so
abbrev pub IsPrefix : {X : Type 0} → List X → List X → Type 0
IsPrefix {X} front whole = (rest : List X) × (whole ≡ front ++ rest)

-- behind what was there stands the text, or after a refusal its beginning
abbrev pub HoldsText : {T E : Type 0} → List ℕ → List ℕ → List ℕ → Result T E → Type 0
HoldsText before now text result =
    MatchResult result (λ _. now ≡ before ++ text) (λ _. (front : List ℕ) × IsPrefix front text × (now ≡ before ++ front))

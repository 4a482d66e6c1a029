-- The least of the first n numbers of which something holds.
use Rattle.std.specs.Prelude.{ℕ, ◌<◌, Option, None, Some}

-- None where it holds of none of the first n numbers, else the least of which it holds
abbrev pub IsLeast : (ℕ → Type 0) → ℕ → Option ℕ → Type 0
IsLeast P n None = (s : ℕ) → s < n → ¬ P s
IsLeast P n (Some s) = (s < n) × P s × ((t : ℕ) → t < s → ¬ P t)

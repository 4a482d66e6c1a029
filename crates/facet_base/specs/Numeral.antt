-- Whole numbers in decimal digits.
use Rattle.std.specs.Prelude.{ℕ, ◌+◌, ◌-◌, ◌*◌, ◌&&◌, Bool, List, [], ◌∷◌, length, if◌then◌else◌, ◌==◌, nat_lt}
use Rattle.std.specs.Str.{all_ascii_digits}

-- the number that digits write behind those of n
abbrev pub number_after : ℕ → List ℕ → ℕ
number_after n [] = n
number_after n (b ∷ bytes) = number_after (10 * n + (b - 48)) bytes

-- one digit or more, and nothing else
abbrev pub are_digits : List ℕ → Bool
are_digits bytes = nat_lt 0 (length bytes) && all_ascii_digits bytes

-- the text behind a plus, where it begins with one
abbrev pub without_plus : List ℕ → List ℕ
without_plus [] = []
without_plus (b ∷ bytes) = if b == 43 then bytes else b ∷ bytes

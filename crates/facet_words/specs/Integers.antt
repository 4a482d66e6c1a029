-- Which words are numbers of an `i64`.
use Rattle.std.specs.Prelude.{ℕ, zero, suc, ℤ, pos, negsuc, ◌+◌, ◌^◌, ◌<◌, ◌&&◌, List, [], ◌∷◌, Option, None, Some, option_map, if◌then◌else◌, ◌==◌, nat_lt}
use Rattle.std.specs.Option.{option_and_then}
use Rattle.facet_base.specs.Numeral.{are_digits, number_after}
use Rattle.facet_words.specs.Words.{is_unpadded}

-- the number below a limit that digits without a leading zero write
abbrev pub unpadded_below : ℕ → List ℕ → Option ℕ
unpadded_below limit bytes = if are_digits bytes && is_unpadded bytes && nat_lt (number_after 0 bytes) limit then Some (number_after 0 bytes) else None

-- a number with a `-`; 0 has none
abbrev pub negative : ℕ → Option ℤ
negative zero = None
negative (suc n) = Some (negsuc n)

-- the number from -2^63 to 2^63 - 1 that a word is: perhaps a `-`, and digits without a leading zero; `-0` is none
abbrev pub integer_of : List ℕ → Option ℤ
integer_of [] = None
integer_of (b ∷ bytes) = if b == 45 then option_and_then negative (unpadded_below (2 ^ 63 + 1) bytes) else option_map pos (unpadded_below (2 ^ 63) (b ∷ bytes))

-- a number from -2^63 to 2^63 - 1
abbrev pub IsInteger : ℤ → Type 0
IsInteger (pos n) = n < 2 ^ 63
IsInteger (negsuc n) = n < 2 ^ 63

-- Which words are names, numbers, references and texts.
use Rattle.std.specs.Prelude.{ℕ, ◌&&◌, ◌||◌, Bool, true, false, not, List, [], ◌∷◌, length, Option, None, Some, if◌then◌else◌, ◌==◌, nat_lt, nat_le}
use Rattle.std.specs.Char.{is_ascii_alphanumeric}
use Rattle.std.specs.List.{list_all, list_any}
use Rattle.std.specs.Str.{is_utf8}
use Rattle.facet_base.specs.Numeral.{are_digits, number_after}

-- nothing is in a list
abbrev pub is_empty : {A : Type 0} → List A → Bool
is_empty [] = true
is_empty (x ∷ xs) = false

-- a letter, a digit or an underscore
abbrev pub is_name_byte : ℕ → Bool
is_name_byte b = is_ascii_alphanumeric b || b == 95

-- 1 to 32 of them
abbrev pub is_name : List ℕ → Bool
is_name bytes = nat_lt 0 (length bytes) && nat_le (length bytes) 32 && list_all is_name_byte bytes

-- one digit, or several of which the first isn't 0
abbrev pub is_unpadded : List ℕ → Bool
is_unpadded [] = false
is_unpadded (b ∷ []) = true
is_unpadded (b ∷ c ∷ bytes) = not (b == 48)

-- the number that at most nine digits without a leading zero write
abbrev pub number_of : List ℕ → Option ℕ
number_of bytes = if are_digits bytes && is_unpadded bytes && nat_le (length bytes) 9 then Some (number_after 0 bytes) else None

-- the number behind a `#`
abbrev pub reference_of : List ℕ → Option ℕ
reference_of [] = None
reference_of (b ∷ bytes) = if b == 35 then number_of bytes else None

-- pieces of a line are separated by single spaces
abbrev pub is_space : ℕ → Bool
is_space b = b == 32

-- a line ends at this byte
abbrev pub is_newline : ℕ → Bool
is_newline b = b == 10

-- UTF-8 without a newline
abbrev pub is_text : List ℕ → Bool
is_text bytes = is_utf8 bytes && not (list_any is_newline bytes)

-- The texts of `Scalar`: what is parsed and what is printed.
use Rattle.std.specs.Prelude.{ℕ, ℤ, pos, neg_ℤ, ◌&&◌, ◌||◌, not, Bool, true, false, List, [], ◌∷◌, ◌++◌, codes, Option, None, Some, option_and_then, option_map, bytes_eq, if◌then◌else◌, ◌==◌, nat_lt, encode_utf8}
use Rattle.std.specs.Fmt.{digits, signed_decimal}
use Rattle.std.specs.List.{flat_map}
use Rattle.std.specs.Str.{chars, is_utf8}
use Rattle.facet_base.specs.Numeral.{are_digits, number_after, without_plus}
use Rattle.facet_base.specs.declared.scalar_type.ScalarType.{ScalarType}
use Rattle.facet_base.specs.declared.scalar_type.ScalarType.TheVariants as kind
use Rattle.facet_leaf.specs.declared.scalars.scalar.Scalar.{Scalar}
use Rattle.facet_leaf.specs.declared.scalars.scalar.Scalar.TheVariants as scalar
use Rattle.facet_leaf.specs.scalars.Scalar.{has_negative, number_of, whole_of}

-- `true` and `false`
abbrev pub truth_of : List ℕ → Option Bool
truth_of text = if bytes_eq text (codes "true") then Some true else (if bytes_eq text (codes "false") then Some false else None)

-- the one character of a list of characters
abbrev pub only : List ℕ → Option ℕ
only (c ∷ []) = Some c
only _ = None

-- the number that decimal digits write, one or more
abbrev pub number_in_digits : List ℕ → Option ℕ
number_in_digits digits = if are_digits digits then Some (number_after 0 digits) else None

-- the text begins with a minus
abbrev pub has_minus : List ℕ → Bool
has_minus [] = false
has_minus (b ∷ text) = b == 45

-- the whole number that a text writes: perhaps a sign, and one digit or more
abbrev pub number_written : List ℕ → Option ℤ
number_written [] = None
number_written (b ∷ text) = if b == 45 then option_map (λ n. neg_ℤ (pos n)) (number_in_digits text) else option_map pos (number_in_digits (without_plus (b ∷ text)))

-- the whole number of the kind that a text writes; a minus stands only where the kind has numbers below zero
abbrev pub whole_parsed : ScalarType → List ℕ → Option Scalar
whole_parsed k text = if has_minus text && not (has_negative k) then None else option_and_then (whole_of k) (number_written text)

-- the scalar of the kind that a text is: `true` or `false`, exactly one character, any text, or a whole number
unfoldable pub scalar_parsed : ScalarType → List ℕ → Option Scalar
scalar_parsed kind.Bool text = option_map scalar.Bool (truth_of text)
scalar_parsed kind.Char text = option_map scalar.Char (only (chars text))
scalar_parsed kind.String text = Some (scalar.String text)
scalar_parsed k text = whole_parsed k text

-- the String that bytes are, exactly where they are UTF-8
abbrev pub scalar_parsed_bytes : ScalarType → List ℕ → Option Scalar
scalar_parsed_bytes kind.String bytes = if is_utf8 bytes then Some (scalar.String bytes) else None
scalar_parsed_bytes k bytes = None

-- a byte as it stands between two quotes: tab, carriage return, newline, NUL, backslash and the quote behind a backslash, another byte below 32 and 127 by its hexadecimal code, and all others unchanged
abbrev pub escaped : ℕ → ℕ → List ℕ
escaped quote b =
    if b == 9 then codes "\\t" else (if b == 13 then codes "\\r" else (if b == 10 then codes "\\n" else (if b == 0 then codes "\\0" else (if b == 92 || b == quote then 92 ∷ b ∷ []
    else (if nat_lt b 32 || b == 127 then codes "\\u{" ++ digits 16 false b ++ codes "}" else b ∷ [])))))

-- bytes between two quotes
abbrev pub quoted : ℕ → List ℕ → List ℕ
quoted quote bytes = quote ∷ [] ++ flat_map (escaped quote) bytes ++ quote ∷ []

-- the word of a truth value
abbrev pub truth_text : Bool → List ℕ
truth_text true = codes "true"
truth_text false = codes "false"

-- the value alone
abbrev pub scalar_display : Scalar → List ℕ
scalar_display (scalar.Bool b) = truth_text b
scalar_display (scalar.Char c) = encode_utf8 c
scalar_display (scalar.String text) = text
scalar_display x = signed_decimal (number_of x)

-- numbers and truth values as displayed, a character between `'`, and a String between `"`
abbrev pub scalar_debug : Scalar → List ℕ
scalar_debug (scalar.Char c) = quoted 39 (encode_utf8 c)
scalar_debug (scalar.String text) = quoted 34 text
scalar_debug x = scalar_display x

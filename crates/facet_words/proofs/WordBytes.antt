-- The bytes of names, of digits and of the commands' words: ASCII, no space and no newline.
use Rattle.std.proofs.Common.{◌≡◌, ℕ, ◌<◌, ◌^◌, ◌&&◌, ◌==◌, Bool, true, false, not, List, [], ◌∷◌, length, refl, arith, nat_lt}
use Rattle.std.specs.Char.{is_ascii_digit}
use Rattle.std.specs.Fmt.{decimal}
use Rattle.std.specs.List.{list_all, list_any}
use Rattle.std.specs.Str.{IsUtf8, IsAscii, is_utf8}
use Rattle.std.proofs.lemmas.Bool.Decides.{nat_tests}
use Rattle.std.proofs.lemmas.Bool.{and_parts, and_from, or_from, not-true, not_from_false}
use Rattle.std.proofs.lemmas.Fmt.{decimal_nonempty, digits_decimal}
use Rattle.std.proofs.lemmas.Str.{IsUtf8-from_ascii, is_utf8-from_IsUtf8, IsUtf8-from_is_utf8}
use Rattle.std.proofs.lemmas.Str.Ascii.{IsAscii-nil, IsAscii-cons}
use Rattle.facet_base.proofs.Numerals.{decimal_digits}
use Rattle.facet_words.specs.Words.{is_empty, is_name, is_name_byte, is_newline, is_space, is_text}

-- what the test of a text says
abbrev pub IsText : List ℕ → Type 0
IsText s = IsUtf8 s × (list_any is_newline s ≡ false)

-- what passes the test is a text
pub text_tested : (s : List ℕ) → is_text s ≡ true → IsText s
text_tested s h =
    let parts : (is_utf8 s ≡ true) × (not (list_any is_newline s) ≡ true) = and_parts _ _ h in
    (IsUtf8-from_is_utf8 s parts.0, not-true _ parts.1)

-- and a text passes it
pub test_of_text : (s : List ℕ) → IsText s → is_text s ≡ true
test_of_text s h = and_from _ _ (is_utf8-from_IsUtf8 s h.0) (not_from_false _ h.1)

-- ASCII, and neither a space nor a newline
abbrev pub is_word_byte : ℕ → Bool
is_word_byte b = nat_lt b 128 && not (b == 32) && not (b == 10)

-- some such bytes
abbrev pub is_word : List ℕ → Bool
is_word s = not (is_empty s) && list_all is_word_byte s

-- a text that is one piece
pub record IsWord (s : List ℕ) : Type 0 where
  pub some : is_empty s ≡ false
  pub ascii : IsAscii s
  pub unspaced : list_any is_space s ≡ false
  pub unbroken : list_any is_newline s ≡ false

-- a byte that passes the test is ASCII, and neither a space nor a newline
word_byte : (b : ℕ) → is_word_byte b ≡ true → (b < 128) × (is_space b ≡ false) × (is_newline b ≡ false)
word_byte b h = (grind (arith, nat_tests), grind (arith, nat_tests), grind (arith, nat_tests))

-- bytes that pass it are so
word_bytes : (s : List ℕ) → list_all is_word_byte s ≡ true → IsAscii s × (list_any is_space s ≡ false) × (list_any is_newline s ≡ false)
word_bytes [] h = (IsAscii-nil, refl, refl)
word_bytes (b ∷ s) h =
    let parts : (is_word_byte b ≡ true) × (list_all is_word_byte s ≡ true) = and_parts _ _ h in
    let here = word_byte b parts.0 in
    let rest = word_bytes s parts.1 in
    (IsAscii-cons b s here.0 rest.0, or_from _ _ here.1 rest.1, or_from _ _ here.2 rest.2)

-- a text that passes the test is one piece
pub word_tested : (s : List ℕ) → is_word s ≡ true → IsWord s
word_tested s h =
    let parts : (not (is_empty s) ≡ true) × (list_all is_word_byte s ≡ true) = and_parts _ _ h in
    let bytes = word_bytes s parts.1 in
    record { some = not-true _ parts.0; ascii = bytes.0; unspaced = bytes.1; unbroken = bytes.2 }

-- one piece is a text
pub text_of_word : (s : List ℕ) → IsWord s → IsText s
text_of_word s word = (IsUtf8-from_ascii s word.ascii, word.unbroken)

-- what each passes that passes another test
pub all_pass : {X : Type 0} (p q : X → Bool) → ((b : X) → p b ≡ true → q b ≡ true) → (s : List X) → list_all p s ≡ true → list_all q s ≡ true
all_pass p q step [] h = refl
all_pass p q step (b ∷ s) h =
    let parts : (p b ≡ true) × (list_all p s ≡ true) = and_parts _ _ h in
    and_from _ _ (step b parts.0) (all_pass p q step s parts.1)

-- a byte of a name is such a byte
name_byte : (b : ℕ) → is_name_byte b ≡ true → is_word_byte b ≡ true
name_byte b h = grind (arith, nat_tests)

-- a name is of such bytes
pub name_bytes : (s : List ℕ) → is_name s ≡ true → list_all is_word_byte s ≡ true
name_bytes s h = all_pass is_name_byte is_word_byte name_byte s (and_parts _ _ h).1

-- a name is one piece
pub word_of_name : (s : List ℕ) → is_name s ≡ true → IsWord s
word_of_name [] h = let no : ⊥ = cc in absurd no
word_of_name (b ∷ s) h = word_tested (b ∷ s) (name_bytes (b ∷ s) h)

-- a digit is such a byte
digit_byte : (b : ℕ) → is_ascii_digit b ≡ true → is_word_byte b ≡ true
digit_byte b h = grind (arith, nat_tests)

-- so are the digits of a number
pub decimal_bytes : (n : ℕ) → n < 2 ^ 64 → list_all is_word_byte (decimal n) ≡ true
decimal_bytes n fits = all_pass is_ascii_digit is_word_byte digit_byte (decimal n) (digits_decimal decimal_digits n fits)

-- the digits of a number are one piece
pub word_of_decimal : (n : ℕ) → n < 2 ^ 64 → IsWord (decimal n)
word_of_decimal n fits = word_tested (decimal n) (and_from _ _ (some_bytes (decimal n) (decimal_nonempty n fits)) (decimal_bytes n fits))
  where
    some_bytes : (s : List ℕ) → 0 < length s → not (is_empty s) ≡ true
    some_bytes [] h = absurd (omega arith)
    some_bytes (b ∷ s) h = refl

-- a reference's piece
pub word_of_reference : (n : ℕ) → n < 10 ^ 9 → IsWord (35 ∷ decimal n)
word_of_reference n small = word_tested (35 ∷ decimal n) (decimal_bytes n (omega arith))

-- The words of truth values are UTF-8, and so is a quoted text where the text is.
use Rattle.std.proofs.Common.{◌≡◌, ℕ, ◌<◌, ◌≤◌, ◌||◌, Bool, true, false, List, [], ◌∷◌, ◌++◌, codes, cond, length, get_or, nat_eq, nat_lt, sym, subst, arith, ⊎_elim, ◌/◌, ◌%◌}
use Rattle.std.proofs.lemmas.Bool.{and_parts, cases_lt}
use Rattle.std.proofs.lemmas.Bool.Decides.{nat_tests}
use Rattle.std.proofs.lemmas.Fmt.{hex_one_digit, hex_two_digits}
use Rattle.std.proofs.lemmas.Str.{IsAscii-append, IsUtf8-append, IsUtf8-nil, IsUtf8-from_ascii, IsUtf8-encode, encode_ascii, inside_one}
use Rattle.std.proofs.lemmas.List.{append-nil}
use Rattle.std.proofs.lemmas.List.Concat.{flat_map-append}
use Rattle.std.proofs.Math.Utf8.{scalars, encode, encodes}
use Rattle.std.specs.Char.{IsScalar}
use Rattle.std.proofs.lemmas.Str.Ascii.{IsAscii-nil, IsAscii-cons}
use Rattle.std.specs.Fmt.{digits, digit_glyph}
use Rattle.std.specs.List.{flat_map}
use Rattle.std.specs.Str.{IsAscii, IsUtf8}
use Rattle.facet_leaf.specs.scalars.ScalarTexts.{escaped, quoted, truth_text}
use Rattle.facet_leaf.proofs.TextsInParts.{all_are_kept}

-- one byte below 128 is ASCII
pub ascii_byte : (a : ℕ) → a < 128 → IsAscii (a ∷ [])
ascii_byte a l = IsAscii-cons a [] l IsAscii-nil

-- two of them are
pub ascii_pair : (a b : ℕ) → a < 128 → b < 128 → IsAscii (a ∷ b ∷ [])
ascii_pair a b l m = IsAscii-cons a (b ∷ []) l (ascii_byte b m)

-- a choice of two ASCII texts is ASCII
choice_is_ascii : (test : Bool) (xs ys : List ℕ) → IsAscii xs → IsAscii ys → IsAscii (cond test xs ys)
choice_is_ascii true xs ys h k = h
choice_is_ascii false xs ys h k = k

-- a hexadecimal digit is ASCII
hex_digit_is_ascii : (n : ℕ) → n < 16 → digit_glyph false n < 128
hex_digit_is_ascii n l = grind (arith, nat_tests)

-- an ASCII byte in hexadecimal digits is ASCII
hex_is_ascii : (b : ℕ) → b < 128 → IsAscii (digits 16 false b)
hex_is_ascii b l = ⊎_elim
    (λ one. subst IsAscii (sym (hex_one_digit false b one)) (ascii_byte _ (hex_digit_is_ascii b one)))
    (λ two. subst IsAscii (sym (hex_two_digits false b two (omega arith))) (ascii_pair _ _ (hex_digit_is_ascii (b / 16) (omega arith)) (hex_digit_is_ascii (b % 16) (omega arith))))
    (cases_lt b 16)

-- an ASCII byte that is escaped by its code is ASCII
code_is_ascii : (b : ℕ) → b < 128 → IsAscii (codes "\\u{" ++ digits 16 false b ++ codes "}")
code_is_ascii b l =
    IsAscii-append (codes "\\u{") (digits 16 false b ++ codes "}") (IsAscii-cons 92 (117 ∷ 123 ∷ []) (omega arith) (ascii_pair 117 123 (omega arith) (omega arith)))
    (IsAscii-append (digits 16 false b) (codes "}") (hex_is_ascii b l) (ascii_byte 125 (omega arith)))

-- an ASCII byte, escaped or not, is ASCII
escaped_is_ascii : (quote b : ℕ) → quote < 128 → b < 128 → IsAscii (escaped quote b)
escaped_is_ascii quote b l m =
    choice_is_ascii (nat_eq b 9) _ _ (ascii_pair 92 116 (omega arith) (omega arith))
    (choice_is_ascii (nat_eq b 13) _ _ (ascii_pair 92 114 (omega arith) (omega arith))
    (choice_is_ascii (nat_eq b 10) _ _ (ascii_pair 92 110 (omega arith) (omega arith))
    (choice_is_ascii (nat_eq b 0) _ _ (ascii_pair 92 48 (omega arith) (omega arith))
    (choice_is_ascii (nat_eq b 92 || nat_eq b quote) _ _ (ascii_pair 92 b (omega arith) m)
    (choice_is_ascii (nat_lt b 32 || nat_eq b 127) _ _ (code_is_ascii b m) (ascii_byte b m))))))

-- a byte from 128 on is not escaped
high_byte_is_kept : (quote b : ℕ) → quote < 128 → 128 ≤ b → escaped quote b ≡ b ∷ []
high_byte_is_kept quote b l m = grind (arith, nat_tests)

-- the word of a truth value is UTF-8
pub truth_text_is_utf8 : (truth : Bool) → IsUtf8 (truth_text truth)
truth_text_is_utf8 true =
    IsUtf8-from_ascii (codes "true")
    (IsAscii-cons 116 (114 ∷ 117 ∷ 101 ∷ []) (omega arith) (IsAscii-cons 114 (117 ∷ 101 ∷ []) (omega arith) (ascii_pair 117 101 (omega arith) (omega arith))))
truth_text_is_utf8 false =
    IsUtf8-from_ascii (codes "false")
    (IsAscii-cons 102 (97 ∷ 108 ∷ 115 ∷ 101 ∷ []) (omega arith)
    (IsAscii-cons 97 (108 ∷ 115 ∷ 101 ∷ []) (omega arith) (IsAscii-cons 108 (115 ∷ 101 ∷ []) (omega arith) (ascii_pair 115 101 (omega arith) (omega arith)))))

-- a character from 128 on has no byte below 128
bytes_of_high_character : (c i : ℕ) → 128 ≤ c → i < length (encode c) → 128 ≤ get_or (encode c) i 0
bytes_of_high_character c i m l = ⊎_elim
    (λ low. absurd (omega (arith, inside_one c [] (encode c) i (sym (append-nil (encode c))) l low)))
    (λ high. high)
    (cases_lt (get_or (encode c) i 0) 128)

-- a character between quotes is UTF-8
escaped_character_is_utf8 : (quote c : ℕ) → quote < 128 → IsScalar c → IsUtf8 (flat_map (escaped quote) (encode c))
escaped_character_is_utf8 quote c l s = ⊎_elim
    (λ low. subst (λ xs. IsUtf8 (flat_map (escaped quote) xs)) (sym (encode_ascii c low)) (subst IsUtf8 (sym (append-nil (escaped quote c))) (IsUtf8-from_ascii _ (escaped_is_ascii quote c l low))))
    (λ high. subst IsUtf8 (sym (all_are_kept (escaped quote) (encode c) (λ i m. high_byte_is_kept quote (get_or (encode c) i 0) l (bytes_of_high_character c i high m)))) (IsUtf8-encode c s))
    (cases_lt c 128)

-- characters between quotes are UTF-8
escaped_characters_are_utf8 : (quote : ℕ) (cs : List ℕ) → quote < 128 → scalars cs ≡ true → IsUtf8 (flat_map (escaped quote) (encodes cs))
escaped_characters_are_utf8 quote [] l s = IsUtf8-nil
escaped_characters_are_utf8 quote (c ∷ cs) l s =
    subst IsUtf8 (sym (flat_map-append (escaped quote) (encode c) (encodes cs)))
    (IsUtf8-append _ _ (escaped_character_is_utf8 quote c l (and_parts _ (scalars cs) s).0) (escaped_characters_are_utf8 quote cs l (and_parts _ (scalars cs) s).1))

-- a quoted text is UTF-8 where the text is
pub quoted_is_utf8 : (quote : ℕ) (bytes : List ℕ) → quote < 128 → IsUtf8 bytes → IsUtf8 (quoted quote bytes)
quoted_is_utf8 quote bytes l u =
    let mark : IsUtf8 (quote ∷ []) = IsUtf8-from_ascii _ (ascii_byte quote l) in
    IsUtf8-append (quote ∷ []) (flat_map (escaped quote) bytes ++ quote ∷ []) mark
    (IsUtf8-append (flat_map (escaped quote) bytes) (quote ∷ []) (subst (λ xs. IsUtf8 (flat_map (escaped quote) xs)) u.1.1 (escaped_characters_are_utf8 quote u.0 l u.1.0)) mark)

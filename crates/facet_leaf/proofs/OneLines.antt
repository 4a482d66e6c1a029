-- The debug text of a scalar is one line.
use Rattle.std.proofs.Common.{◌≡◌, ◌≢◌, ℕ, ℤ, refl, zero, suc, ◌/◌, ◌%◌, ◌||◌, Bool, true, false, cond, List, [], ◌∷◌, ◌++◌, codes, nat_eq, nat_lt, not, pos, negsuc, arith, encode_utf8}
use Rattle.std.proofs.lemmas.Bool.{and_parts}
use Rattle.std.proofs.lemmas.Bool.Decides.{nat_tests}
use Rattle.std.proofs.lemmas.List.Elements.{All-nil, All-cons, All-append}
use Rattle.std.specs.Fmt.{digits, digits_onto, digit_glyph, signed_decimal}
use Rattle.std.specs.List.{flat_map, list_all}
use Rattle.facet_leaf.specs.OneLine.{IsOneLine, HasOneLineDebug}
use Rattle.facet_leaf.specs.scalars.Scalar.{number_of}
use Rattle.facet_leaf.specs.scalars.ScalarModel.{scalar_model}
use Rattle.facet_leaf.specs.scalars.ScalarTexts.{escaped, quoted, truth_text}
use Rattle.facet_leaf.specs.declared.scalars.scalar.Scalar.TheVariants as scalar

-- the text of no byte
none : IsOneLine []
none = All-nil (λ b. b ≢ 10)

-- a byte in front
more : (b : ℕ) (text : List ℕ) → b ≢ 10 → IsOneLine text → IsOneLine (b ∷ text)
more b text h rest = All-cons (λ b. b ≢ 10) b text h rest

-- two texts in a row
joined : (xs ys : List ℕ) → IsOneLine xs → IsOneLine ys → IsOneLine (xs ++ ys)
joined xs ys h k = All-append (λ b. b ≢ 10) xs ys h k

-- a byte is no newline
abbrev differs : ℕ → Bool
differs b = not (nat_eq b 10)

-- a text that is written out
literal : (text : List ℕ) → list_all differs text ≡ true → IsOneLine text
literal [] h = none
literal (b ∷ text) h =
    let both = and_parts (differs b) (list_all differs text) h in
    let first = both.0 in
    more b text (λ e. grind (arith, nat_tests)) (literal text both.1)

-- a choice of two texts
chosen : (test : Bool) (xs ys : List ℕ) → IsOneLine xs → (test ≡ false → IsOneLine ys) → IsOneLine (cond test xs ys)
chosen true xs ys h k = h
chosen false xs ys h k = k refl

-- the glyph of a digit
glyph : (d : ℕ) → digit_glyph false d ≢ 10
glyph d e = grind (arith, nat_tests)

-- digits in front
digits_in_front : (k base n : ℕ) (text : List ℕ) → IsOneLine text → IsOneLine (digits_onto k base false n text)
digits_in_front zero base n text h = h
digits_in_front (suc k) base n text h =
    let one = more (digit_glyph false (n % base)) text (glyph (n % base)) h in
    chosen (nat_eq (n / base) 0) _ _ one (λ _. digits_in_front k base (n / base) (digit_glyph false (n % base) ∷ text) one)

-- a number in digits
pub number : (base n : ℕ) → IsOneLine (digits base false n)
unfolding digits
number base n = digits_in_front 64 base n [] none

-- a byte between quotes
escaped_byte : (quote b : ℕ) → quote ≢ 10 → IsOneLine (escaped quote b)
escaped_byte quote b h =
    chosen (nat_eq b 9) _ _ (literal (codes "\\t") refl)
    (λ _. chosen (nat_eq b 13) _ _ (literal (codes "\\r") refl)
    (λ _. chosen (nat_eq b 10) _ _ (literal (codes "\\n") refl)
    (λ other.
    let here : b ≢ 10 = λ e. grind (arith, nat_tests) in
    chosen (nat_eq b 0) _ _ (literal (codes "\\0") refl)
    (λ _. chosen (nat_eq b 92 || nat_eq b quote) _ _ (more 92 (b ∷ []) (λ e. omega arith) (more b [] here none))
    (λ _. chosen (nat_lt b 32 || nat_eq b 127) _ _
    (joined (codes "\\u{" ++ digits 16 false b) (codes "}") (joined (codes "\\u{") (digits 16 false b) (literal (codes "\\u{") refl) (number 16 b)) (literal (codes "}") refl))
    (λ _. more b [] here none))))))

-- bytes between quotes
escaped_bytes : (quote : ℕ) (bytes : List ℕ) → quote ≢ 10 → IsOneLine (flat_map (escaped quote) bytes)
escaped_bytes quote [] h = none
escaped_bytes quote (b ∷ bytes) h = joined (escaped quote b) (flat_map (escaped quote) bytes) (escaped_byte quote b h) (escaped_bytes quote bytes h)

-- a quoted text
quoted_text : (quote : ℕ) (bytes : List ℕ) → quote ≢ 10 → IsOneLine (quoted quote bytes)
quoted_text quote bytes h = more quote (flat_map (escaped quote) bytes ++ quote ∷ []) h (joined (flat_map (escaped quote) bytes) (quote ∷ []) (escaped_bytes quote bytes h) (more quote [] h none))

-- the word of a truth value
truth : (b : Bool) → IsOneLine (truth_text b)
truth true = literal (codes "true") refl
truth false = literal (codes "false") refl

-- a number with its sign
signed : (z : ℤ) → IsOneLine (signed_decimal z)
signed (pos n) = number 10 n
signed (negsuc n) = more 45 (digits 10 false (suc n)) (λ e. omega arith) (number 10 (suc n))

-- the debug text of each scalar
pub scalar_debug_is_one_line : HasOneLineDebug scalar_model
scalar_debug_is_one_line (scalar.Bool b) = truth b
scalar_debug_is_one_line (scalar.Char c) = quoted_text 39 (encode_utf8 c) (λ e. omega arith)
scalar_debug_is_one_line (scalar.String text) = quoted_text 34 text (λ e. omega arith)
scalar_debug_is_one_line x = signed (number_of x)

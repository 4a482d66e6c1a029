-- Numbers of an `i64`: the code's reader, and how they are written.
use Rattle.std.proofs.Common.{◌≡◌, ◌≢◌, ℕ, zero, suc, ℤ, pos, negsuc, neg_ℤ, ◌+◌, ◌^◌, ◌<◌, ◌&&◌, Bool, true, false, cond, List, [], ◌∷◌, Option, None, Some, option_map, get_or, refl, sym, ap, ◌∙◌, subst, arith, nat_lt, nat_eq, lit<}
use Rattle.std.specs.Char.{is_ascii_digit}
use Rattle.std.specs.Fmt.{decimal, signed_decimal}
use Rattle.std.specs.Option.{option_and_then}
use Rattle.std.specs.Str.{all_ascii_digits}
use Rattle.std.proofs.lemmas.Bool.Decides.{nat_tests}
use Rattle.std.proofs.lemmas.Bool.{cond-false, cond-true, and_parts, and_from, ltb-true, lt-ltb, eqb-true, false_from_ne_true}
use Rattle.std.proofs.lemmas.Option.{cond_some, same_Some, option_and_then_some}
use Rattle.std.proofs.lemmas.Fmt.{decimal_digit}
use Rattle.facet_base.specs.Numeral.{are_digits, number_after, without_plus}
use Rattle.facet_base.proofs.Numerals.{number_below, signed_in}
use Rattle.facet_words.specs.Words.{is_unpadded}
use Rattle.facet_words.specs.Integers.{IsInteger, integer_of, negative, unpadded_below}
use Rattle.facet_words.proofs.Numbers.{decimal_read, digits_spelled, map_some, no_plus}
use Rattle.facet_words.proofs.WordBytes.{IsWord, decimal_bytes, word_of_decimal, word_tested}

-- digits without a leading zero are the decimal digits of the number that they are read as
unpadded_spelled : (limit : ℕ) (s : List ℕ) (n : ℕ) → limit < 2 ^ 64 → unpadded_below limit s ≡ Some n → (decimal n ≡ s) × (n < limit)
unpadded_spelled limit s n low e =
    let found = cond_some (are_digits s && is_unpadded s && nat_lt (number_after 0 s) limit) (number_after 0 s) n e in
    let outer : (are_digits s && is_unpadded s ≡ true) × (nat_lt (number_after 0 s) limit ≡ true) = and_parts _ _ found.0 in
    let inner : (are_digits s ≡ true) × (is_unpadded s ≡ true) = and_parts _ _ outer.0 in
    let below : number_after 0 s < limit = ltb-true _ _ outer.1 in
    (ap decimal (sym found.1) ∙ digits_spelled s inner.0 inner.1 (omega (arith, below, low)), subst (λ m. m < limit) found.1 below)

-- decimal digits are read as their number
unpadded_read : (limit n : ℕ) → limit < 2 ^ 64 → n < limit → unpadded_below limit (decimal n) ≡ Some n
unpadded_read limit n low below =
    let read = decimal_read n (omega arith) in
    let under : nat_lt (number_after 0 (decimal n)) limit ≡ true = lt-ltb _ _ (subst (λ m. m < limit) (sym read.value) below) in
    cond-true _ _ _ (and_from _ _ (and_from _ _ read.digits read.unpadded) under) ∙ ap Some read.value

-- what is read and written behind a `-`
negative_spelled : (n : ℕ) (z : ℤ) → negative n ≡ Some z → n < 2 ^ 63 + 1 → IsInteger z × (signed_decimal z ≡ 45 ∷ decimal n)
negative_spelled zero z e below = let no : ⊥ = cc in absurd no
negative_spelled (suc n) z e below =
    subst (λ y. IsInteger y × (signed_decimal y ≡ 45 ∷ decimal (suc n))) (same_Some _ _ e) (omega arith, refl)

-- an integer that was read can be written, and is written as the word
pub integer_spelled : (word : List ℕ) (z : ℤ) → integer_of word ≡ Some z → IsInteger z × (signed_decimal z ≡ word)
integer_spelled [] z e = let no : ⊥ = cc in absurd no
integer_spelled (b ∷ bytes) z e = by_sign (nat_eq b 45) refl e
  where
    by_sign : (minus : Bool) → nat_eq b 45 ≡ minus → cond minus (option_and_then negative (unpadded_below (2 ^ 63 + 1) bytes)) (option_map pos (unpadded_below (2 ^ 63) (b ∷ bytes))) ≡ Some z → IsInteger z × (signed_decimal z ≡ b ∷ bytes)
    by_sign true is e =
        option_and_then_some negative (unpadded_below (2 ^ 63 + 1) bytes) z e
        (λ n found signed.
        let digits = unpadded_spelled (2 ^ 63 + 1) bytes n (lit< tt) found in
        let written = negative_spelled n z signed digits.1 in
        (written.0, written.1 ∙ (λ i. sym (eqb-true b 45 is) i ∷ digits.0 i)))
    by_sign false is e =
        let found = map_some pos (unpadded_below (2 ^ 63) (b ∷ bytes)) z e in
        let digits = unpadded_spelled (2 ^ 63) (b ∷ bytes) found.0 (lit< tt) found.1 in
        subst (λ y. IsInteger y × (signed_decimal y ≡ b ∷ bytes)) found.2 (digits.1, digits.0)

-- digits are no `-`
digits_unsigned : (s : List ℕ) → are_digits s ≡ true → integer_of s ≡ option_map pos (unpadded_below (2 ^ 63) s)
digits_unsigned [] h = let no : ⊥ = cc in absurd no
digits_unsigned (b ∷ s) h =
    let digits : (is_ascii_digit b ≡ true) × (all_ascii_digits s ≡ true) = and_parts (is_ascii_digit b) (all_ascii_digits s) (and_parts _ _ h).1 in
    let digit : is_ascii_digit b ≡ true = digits.0 in
    let other : nat_eq b 45 ≡ false = grind (arith, nat_tests) in
    cond-false _ _ _ other

-- an integer is read from what it is written as
pub integer_read : (z : ℤ) → IsInteger z → integer_of (signed_decimal z) ≡ Some z
integer_read (pos n) h =
    digits_unsigned (decimal n) (decimal_read n (omega arith)).digits ∙ ap (option_map pos) (unpadded_read (2 ^ 63) n (lit< tt) h)
integer_read (negsuc n) h = ap (option_and_then negative) (unpadded_read (2 ^ 63 + 1) (suc n) (lit< tt) (omega arith))

-- an integer is written as one piece
pub integer_is_a_piece : (z : ℤ) → IsInteger z → IsWord (signed_decimal z)
integer_is_a_piece (pos n) h = word_of_decimal n (omega arith)
integer_is_a_piece (negsuc n) h = word_tested (45 ∷ decimal (suc n)) (decimal_bytes (suc n) (omega arith))

-- what the code's reader finds

-- of digits without a leading zero two tests agree
unpadded_same : (limit : ℕ) (s : List ℕ) → is_unpadded s ≡ true → number_below limit s ≡ unpadded_below limit s
unpadded_same limit s unpadded = ap (λ t. cond t (Some (number_after 0 s)) None) (both (are_digits s) (is_unpadded s) _ unpadded)
  where
    both : (digits unpadded low : Bool) → unpadded ≡ true → (digits && low) ≡ (digits && unpadded && low)
    both true true low h = refl
    both false true low h = refl
    both digits false low h = let no : ⊥ = cc in absurd no

-- a number that isn't 0 may have a `-`
signs : (o : Option ℕ) → (o ≡ Some 0 → ⊥) → option_map (λ n. neg_ℤ (pos n)) o ≡ option_and_then negative o
signs None h = refl
signs (Some zero) h = absurd (h refl)
signs (Some (suc n)) h = refl

-- behind a `-` stand digits without a leading zero, other than 0
pub minus_read : (s : List ℕ) → s ≢ 48 ∷ [] → is_unpadded s ≡ true → signed_in 63 (45 ∷ s) ≡ integer_of (45 ∷ s)
minus_read s other unpadded =
    ap (option_map (λ n. neg_ℤ (pos n))) (unpadded_same (2 ^ 63 + 1) s unpadded)
    ∙ signs (unpadded_below (2 ^ 63 + 1) s) (λ e. other (sym (unpadded_spelled (2 ^ 63 + 1) s 0 (lit< tt) e).0 ∙ decimal_digit 0 (lit< tt)))

-- a text without a `-`, a `+` and a leading zero
pub unsigned_read : (s : List ℕ) → ((rest : List ℕ) → s ≢ 45 ∷ rest) → get_or s 0 0 ≢ 43 → is_unpadded s ≡ true → signed_in 63 s ≡ integer_of s
unsigned_read [] no_minus no_sign unpadded = let no : ⊥ = cc in absurd no
unsigned_read (b ∷ s) no_minus no_sign unpadded =
    let minus : nat_eq b 45 ≡ false = false_from_ne_true _ (λ e. no_minus s (ap (λ c. c ∷ s) (eqb-true b 45 e))) in
    let digits : number_below (2 ^ 63) (without_plus (b ∷ s)) ≡ unpadded_below (2 ^ 63) (b ∷ s) = ap (number_below (2 ^ 63)) (no_plus (b ∷ s) no_sign) ∙ unpadded_same (2 ^ 63) (b ∷ s) unpadded in
    cond-false _ _ _ minus ∙ ap (option_map pos) digits ∙ sym (cond-false _ _ _ minus)

-- Numbers of at most nine digits: the code's reader, and their decimal digits.
use Rattle.std.proofs.Common.{◌≡◌, ◌≢◌, ℕ, zero, suc, ◌^◌, ◌<◌, ◌≤◌, ◌&&◌, Bool, true, false, cond, List, [], ◌∷◌, length, Option, None, Some, option_map, Result, get_or, refl, sym, ap, ◌∙◌, arith, nat_lt, nat_le, nat_eq, lit<}
use Rattle.std.specs.Fmt.{decimal}
use Rattle.std.specs.Result.{result_ok}
use Rattle.std.specs.Str.{all_ascii_digits}
use Rattle.std.specs.Str.Parse.{ParsesUnsigned}
use Rattle.std.proofs.lemmas.Bool.Decides.{nat_tests}
use Rattle.std.proofs.lemmas.Bool.{lt-ltb, le-leb, ltb-true, leb-true, eqb-true, cond-false, cond-true, and_parts, and_from, false_from_ne_true, eq-eqb, ne_eqb, not_from_false, both_ways, not-true}
use Rattle.std.proofs.lemmas.Fmt.{decimal-digits_value, decimal_digit, decimal_nonempty, first_decimal, length-decimal-le, digits_decimal, digits_value-decimal}
use Rattle.std.proofs.lemmas.Str.Parse.{digits_value_short}
use Rattle.std.proofs.lemmas.Option.{cond_some}
use Rattle.facet_base.specs.Numeral.{number_after, are_digits, without_plus}
use Rattle.facet_base.proofs.Numerals.{number_below, decimal_digits, unsigned_parsed}
use Rattle.facet_words.specs.Words.{reference_of, number_of, is_unpadded}

-- what a test lets through
pub tested_some : {A : Type 0} (test : Bool) (x : Option A) (y : A) → cond test x None ≡ Some y → (test ≡ true) × (x ≡ Some y)
tested_some true x y e = (refl, e)
tested_some false x y e = cc

-- what stands behind a mapped value
pub map_some : {A B : Type 0} (f : A → B) (o : Option A) (y : B) → option_map f o ≡ Some y → (x : A) × (o ≡ Some x) × (f x ≡ y)
map_some f None y e = let no : ⊥ = cc in absurd no
map_some f (Some x) y e = (x, refl, cc)

-- a text that doesn't begin with `#` is no reference
pub reference_none : (s : List ℕ) → ((rest : List ℕ) → s ≢ 35 ∷ rest) → None ≡ reference_of s
reference_none [] h = refl
reference_none (b ∷ s) h = sym (cond-false (nat_eq b 35) _ _ (false_from_ne_true _ (λ e. h s (grind (arith, nat_tests)))))

-- without a plus at its start a text stays as it is
pub no_plus : (s : List ℕ) → get_or s 0 0 ≢ 43 → without_plus s ≡ s
no_plus [] h = refl
no_plus (b ∷ s) h = cond-false (nat_eq b 43) _ _ (false_from_ne_true _ (λ e. h (eqb-true b 43 e)))

-- of digits the number is low, so two tests agree
same_test : (digits low unpadded short : Bool) → (digits ≡ true → low ≡ true) → unpadded ≡ true → short ≡ true → (digits && low) ≡ (digits && unpadded && short)
same_test true low unpadded short h u s = h refl ∙ sym (and_from _ _ u s)
same_test false low unpadded short h u s = refl

-- what `parse` finds in at most nine bytes without a leading zero and a sign
pub number_parsed : {E : Type 0} (s : List ℕ) (r : Result ℕ E) → ParsesUnsigned 32 10 s r → length s ≤ 9 → is_unpadded s ≡ true → get_or s 0 0 ≢ 43 → result_ok r ≡ number_of s
number_parsed s r h short unpadded unsigned =
    let low : are_digits s ≡ true → nat_lt (number_after 0 s) (2 ^ 32) ≡ true = λ digits.
    let parts : (nat_lt 0 (length s) ≡ true) × (all_ascii_digits s ≡ true) = and_parts _ _ digits in
    let small : number_after 0 s < 10 ^ 9 = digits_value_short decimal_digits s 9 parts.1 short in
    let fits : number_after 0 s < 2 ^ 32 = omega arith in
    lt-ltb _ _ fits in
    unsigned_parsed 32 s r h ∙ ap (number_below (2 ^ 32)) (no_plus s unsigned)
    ∙ ap (λ t. cond t (Some (number_after 0 s)) None) (same_test (are_digits s) _ _ _ low unpadded (le-leb _ _ short))

-- a text of digits without a leading 0
unpadded_first : (s : List ℕ) → is_unpadded s ≡ true → get_or s 0 0 ≡ 48 → length s ≡ 1
unpadded_first [] h e = cc
unpadded_first (b ∷ []) h e = refl
unpadded_first (b ∷ c ∷ s) h e = absurd (both_ways (nat_eq b 48) (not-true _ h) (eq-eqb b 48 e))

-- and the other way round
first_unpadded : (s : List ℕ) → 0 < length s → (get_or s 0 0 ≡ 48 → length s ≡ 1) → is_unpadded s ≡ true
first_unpadded [] h e = absurd (omega arith)
first_unpadded (b ∷ []) h e = refl
first_unpadded (b ∷ c ∷ s) h e =
    not_from_false _ (ne_eqb b 48 (λ same.
    let long : suc (suc (length s)) ≡ 1 = e same in
    omega arith))

-- digits without a leading zero are the decimal digits of their number
pub digits_spelled : (s : List ℕ) → are_digits s ≡ true → is_unpadded s ≡ true → number_after 0 s < 2 ^ 64 → decimal (number_after 0 s) ≡ s
digits_spelled s digits unpadded fits =
    let parts : (nat_lt 0 (length s) ≡ true) × (all_ascii_digits s ≡ true) = and_parts _ _ digits in
    decimal-digits_value decimal_digits s parts.1 (ltb-true _ _ parts.0) (unpadded_first s unpadded) fits

-- a number in digits is the number's decimal digits
pub number_spelled : (s : List ℕ) (n : ℕ) → number_of s ≡ Some n → (s ≡ decimal n) × (n < 10 ^ 9)
number_spelled s n e =
    let found = cond_some (are_digits s && is_unpadded s && nat_le (length s) 9) (number_after 0 s) n e in
    let outer : (are_digits s && is_unpadded s ≡ true) × (nat_le (length s) 9 ≡ true) = and_parts _ _ found.0 in
    let inner : (are_digits s ≡ true) × (is_unpadded s ≡ true) = and_parts _ _ outer.0 in
    let digits : (nat_lt 0 (length s) ≡ true) × (all_ascii_digits s ≡ true) = and_parts _ _ inner.0 in
    let small : number_after 0 s < 10 ^ 9 = digits_value_short decimal_digits s 9 digits.1 (leb-true _ _ outer.1) in
    (sym (digits_spelled s inner.0 inner.1 (omega arith)) ∙ ap decimal found.1, omega arith)

-- decimal digits have no leading zero
decimal_first : (n : ℕ) → n < 2 ^ 64 → get_or (decimal n) 0 0 ≡ 48 → length (decimal n) ≡ 1
decimal_first zero fits e = ap length (decimal_digit 0 (lit< tt))
decimal_first (suc n) fits e =
    let first : 48 < get_or (decimal (suc n)) 0 0 = first_decimal (suc n) (omega arith) fits in
    absurd (omega arith)

-- what decimal digits are
pub record AreDigitsOf (n : ℕ) (s : List ℕ) : Type 0 where
  pub digits : are_digits s ≡ true
  pub unpadded : is_unpadded s ≡ true
  pub value : number_after 0 s ≡ n

-- the decimal digits of a number are digits without a leading zero that write it
pub decimal_read : (n : ℕ) → n < 2 ^ 64 → AreDigitsOf n (decimal n)
decimal_read n fits =
    let some : 0 < length (decimal n) = decimal_nonempty n fits in
    record {
      digits = and_from _ _ (lt-ltb 0 _ some) (digits_decimal decimal_digits n fits);
      unpadded = first_unpadded (decimal n) some (decimal_first n fits);
      value = digits_value-decimal decimal_digits n fits;
    }

-- the decimal digits of a number are read as this number
pub decimal_number : (n : ℕ) → n < 10 ^ 9 → number_of (decimal n) ≡ Some n
decimal_number n small =
    let fits : n < 2 ^ 64 = omega arith in
    let read = decimal_read n fits in
    let short : nat_le (length (decimal n)) 9 ≡ true = le-leb _ _ (length-decimal-le 9 n (lit< tt) small fits) in
    cond-true _ _ _ (and_from _ _ (and_from _ _ read.digits read.unpadded) short) ∙ ap Some read.value

-- a reference is `#` and the decimal digits of its number
pub reference_spelled : (s : List ℕ) (n : ℕ) → reference_of s ≡ Some n → (s ≡ 35 ∷ decimal n) × (n < 10 ^ 9)
reference_spelled [] n e = cc
reference_spelled (b ∷ s) n e =
    let found : (nat_eq b 35 ≡ true) × (number_of s ≡ Some n) = tested_some _ _ _ e in
    let number = number_spelled s n found.1 in
    ((λ i. eqb-true b 35 found.0 i ∷ number.0 i), number.1)

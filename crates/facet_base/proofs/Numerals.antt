-- The number that `parse` reads is the one that the definition says.
use Rattle.std.proofs.Common.{◌≡◌, ℕ, ℤ, pos, neg_ℤ, ◌+◌, ◌^◌, ◌<◌, ◌≤◌, ◌&&◌, Bool, true, false, cond, List, [], ◌∷◌, length, drop, Option, None, Some, option_map, if◌then◌else◌, ◌==◌, Result, Ok, Err, refl, sym, ap, ◌∙◌, subst, rules, arith, nat_lt, nat_eq}
use Rattle.std.proofs.lemmas.Bool.Decides.{nat_tests}
use Rattle.std.specs.Result.{OkIff, result_ok}
use Rattle.std.specs.Str.{all_ascii_digits}
use Rattle.std.specs.Str.Parse.{ParsesUnsigned, ParsesSigned, IsNumeral, digits_value, without_leading_plus}
use Rattle.std.proofs.lemmas.Bool.{ltb-true}
use mir.Syntax.{Width}
use mir.Val.{hbits}
use Rattle.std.proofs.lemmas.Str.Parse.{IsNumeralModel, numerals_by_fold, parse_signed_minus, parse_signed_plain, parse_signed_plus}
use Rattle.facet_base.specs.Numeral.{number_after, are_digits, without_plus}

-- the number that digits write, where it is below the limit
abbrev pub number_below : ℕ → List ℕ → Option ℕ
number_below limit digits = if are_digits digits && nat_lt (number_after 0 digits) limit then Some (number_after 0 digits) else None

-- the unsigned number below the limit that a text is: perhaps a plus, and one digit or more
abbrev pub unsigned_below : ℕ → List ℕ → Option ℕ
unsigned_below limit text = number_below limit (without_plus text)

-- the signed number with so many bits beside the sign that a text is: perhaps a sign, and one digit or more
abbrev pub signed_in : ℕ → List ℕ → Option ℤ
signed_in bits [] = None
signed_in bits (b ∷ text) = if b == 45 then option_map (λ n. neg_ℤ (pos n)) (number_below (2 ^ bits + 1) text) else option_map pos (unsigned_below (2 ^ bits) (b ∷ text))

pub decimal_digits : IsNumeralModel (λ ds. all_ascii_digits ds ≡ true) (number_after 0)
decimal_digits = numerals_by_fold _ (search rules) number_after (search rules)

number_taken : (a b c : Bool) (v : ℕ) → a ≡ true → b ≡ true → c ≡ true → cond (a && b && c) (Some v) None ≡ Some v
number_taken a b c v p q r = rw (p, q, r) refl

number_refused : (a b c : Bool) (v : ℕ) → (a ≡ true → b ≡ true → c ≡ true → ⊥) → cond (a && b && c) (Some v) None ≡ None
number_refused true true true v h = absurd (h refl refl refl)
number_refused true true false v h = refl
number_refused true false c v h = refl
number_refused false b c v h = refl

digits_below : {E : Type 0} (limit : ℕ) (ds : List ℕ) (r : Result ℕ E) → OkIff r (IsNumeral 10 ds × (digits_value 10 ds < limit)) (digits_value 10 ds) → result_ok r ≡ number_below limit ds
digits_below limit ds (Ok x) h =
    let numeral = h.0.0 in
    let value = decimal_digits.same ds numeral.1 in
    let small : number_after 0 ds < limit = rw value h.0.1 in
    ap Some (h.1 ∙ sym value)
    ∙ sym (number_taken (nat_lt 0 (length ds)) (all_ascii_digits ds) (nat_lt (number_after 0 ds) limit) (number_after 0 ds) (grind (arith, nat_tests)) (decimal_digits.from ds numeral.1) (grind (arith, nat_tests)))
digits_below limit ds (Err e) h =
    sym (number_refused (nat_lt 0 (length ds)) (all_ascii_digits ds) (nat_lt (number_after 0 ds) limit) (number_after 0 ds)
    (λ some all small.
    let digits = decimal_digits.to ds all in
    h ((ltb-true 0 (length ds) some, digits), subst (λ v. v < limit) (decimal_digits.same ds digits) (ltb-true (number_after 0 ds) limit small))))

behind_plus : (b : ℕ) (bytes : List ℕ) (test : Bool) → drop (cond test 1 0) (b ∷ bytes) ≡ cond test bytes (b ∷ bytes)
behind_plus b bytes true = refl
behind_plus b bytes false = refl

same_without_plus : (text : List ℕ) → without_leading_plus text ≡ without_plus text
same_without_plus [] = refl
same_without_plus (b ∷ bytes) = behind_plus b bytes (nat_eq b 43)

pub unsigned_parsed : {E : Type 0} (k : ℕ) (text : List ℕ) (r : Result ℕ E) → ParsesUnsigned k 10 text r → result_ok r ≡ unsigned_below (2 ^ k) text
unsigned_parsed k text r h = digits_below (2 ^ k) (without_plus text) r (subst (λ ds. OkIff r (IsNumeral 10 ds × (digits_value 10 ds < 2 ^ k)) (digits_value 10 ds)) (same_without_plus text) h)

-- Ok comes exactly where digits write a number below the limit, with that number
abbrev Reads : {T E : Type 0} → (ℕ → T) → ℕ → List ℕ → Result T E → Type 0
Reads g limit ds r = OkIff r ((all_ascii_digits ds ≡ true) × (0 < length ds) × (number_after 0 ds < limit)) (g (number_after 0 ds))

read_below : {T E : Type 0} (g : ℕ → T) (limit : ℕ) (ds : List ℕ) (r : Result T E) → Reads g limit ds r → result_ok r ≡ option_map g (number_below limit ds)
read_below g limit ds (Ok x) h =
    ap Some h.1
    ∙ sym (ap (option_map g) (number_taken (nat_lt 0 (length ds)) (all_ascii_digits ds) (nat_lt (number_after 0 ds) limit) (number_after 0 ds) (grind (arith, nat_tests)) h.0.0 (grind (arith, nat_tests))))
read_below g limit ds (Err e) h =
    sym (ap (option_map g) (number_refused (nat_lt 0 (length ds)) (all_ascii_digits ds) (nat_lt (number_after 0 ds) limit) (number_after 0 ds)
    (λ some all small. h (all, ltb-true 0 (length ds) some, ltb-true (number_after 0 ds) limit small))))

at_most : {T E : Type 0} (P Q : Type 0) (n m : ℕ) (v : T) (r : Result T E) → OkIff r (P × Q × (n ≤ m)) v → OkIff r (P × Q × (n < m + 1)) v
at_most P Q n m v (Ok x) h = ((h.0.0, h.0.1, omega (arith, h.0.2)), h.1)
at_most P Q n m v (Err e) h = λ p. h (p.0, p.1, omega (arith, p.2))

choice : {X Y : Type 0} (f : X → Y) (y : Y) (test : Bool) (a b : X) → (test ≡ true → y ≡ f a) → (test ≡ false → y ≡ f b) → y ≡ f (cond test a b)
choice f y true a b h i = h refl
choice f y false a b h i = i refl

pub signed_parsed : {E : Type 0} (w : Width) (text : List ℕ) (r : Result ℤ E) → ParsesSigned w 10 text r → result_ok r ≡ signed_in (hbits w) text
signed_parsed w [] r h = read_below pos (2 ^ hbits w) [] r (parse_signed_plain decimal_digits w [] r h (omega arith) (omega arith))
signed_parsed w (b ∷ text) r h =
    choice (λ z. z) (result_ok r) (nat_eq b 45) _ _
    (λ minus. read_below (λ n. neg_ℤ (pos n)) (2 ^ hbits w + 1) text r (at_most _ _ _ _ _ r (parse_signed_minus decimal_digits w (b ∷ text) r h (grind (arith, nat_tests)))))
    (λ no_minus. choice (λ ds. option_map pos (number_below (2 ^ hbits w) ds)) (result_ok r) (nat_eq b 43) text (b ∷ text)
    (λ plus. read_below pos (2 ^ hbits w) text r (parse_signed_plus decimal_digits w (b ∷ text) r h (grind (arith, nat_tests))))
    (λ no_plus. read_below pos (2 ^ hbits w) (b ∷ text) r (parse_signed_plain decimal_digits w (b ∷ text) r h (grind (arith, nat_tests)) (grind (arith, nat_tests)))))

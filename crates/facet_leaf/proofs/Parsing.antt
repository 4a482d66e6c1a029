-- The truth value, the character and the number that `parse` reads are those that the definitions say.
use Rattle.std.proofs.Common.{◌≡◌, ◌≢◌, ℕ, ℤ, zero, suc, pos, negsuc, neg_ℤ, ◌+◌, ◌^◌, ◌<◌, ◌≤◌, ◌&&◌, arith, cond, get_or, nat_eq, nat_lt, not, option_and_then, Bool, true, false, List, [], ◌∷◌, None, Some, option_map, Result, Ok, Err, refl, sym, ap, ◌∙◌, subst, append-nil}
use Rattle.std.proofs.lemmas.Bool.{false_from_ne_true, and_parts, ltb-true}
use Rattle.std.specs.Char.{IsScalar, encode_utf8}
use Rattle.std.proofs.lemmas.Slice.Eq.{bytes_eq-Decides}
use Rattle.std.proofs.lemmas.Str.{chars-nil, chars_past_char, encodes-chars, scalars-chars}
use Rattle.std.specs.Result.{result_ok}
use Rattle.std.specs.Str.{bytes_eq, chars, IsUtf8, encode_utf8_all, all_scalars}
use Rattle.std.specs.Str.Parse.{ParsesSigned, ParsesUnsigned, ParsesBool, ParsesChar, true_text, false_text}
use Rattle.std.specs.Int.{w128}
use Rattle.std.proofs.lemmas.Int.{to_z-of_z}
use mir.Val.{of_z, to_z, SFits}
use Rattle.std.proofs.lemmas.Bool.Decides.{nat_tests}
use Rattle.facet_base.specs.Numeral.{are_digits, number_after, without_plus}
use Rattle.facet_base.specs.declared.scalar_type.ScalarType.{ScalarType}
use Rattle.facet_base.specs.declared.scalar_type.ScalarType.TheVariants as kind
use Rattle.facet_base.proofs.Numerals.{signed_in, signed_parsed, unsigned_below, unsigned_parsed}
use Rattle.facet_leaf.specs.declared.scalars.scalar.Scalar.{Scalar}
use Rattle.facet_leaf.specs.declared.scalars.scalar.Scalar.TheVariants as scalar
use Rattle.facet_leaf.specs.scalars.Scalar.{has_negative, signed_of, whole_of}
use Rattle.facet_leaf.specs.scalars.ScalarTexts.{has_minus, only, scalar_parsed, truth_of, whole_parsed}

-- texts that differ are not equal as bytes
bytes_differ : (xs ys : List ℕ) → (xs ≢ ys) → bytes_eq xs ys ≡ false
bytes_differ xs ys h = false_from_ne_true (bytes_eq xs ys) (λ e. h ((bytes_eq-Decides xs ys).0 e))

-- the truth value that `parse` reads
pub truth_parsed : {E : Type 0} (text : List ℕ) (r : Result Bool E) → ParsesBool text r → result_ok r ≡ truth_of text
truth_parsed text (Ok true) h = sym (ap truth_of h)
truth_parsed text (Ok false) h = sym (ap truth_of h)
truth_parsed text (Err e) h = rw (bytes_differ text true_text h.0, bytes_differ text false_text h.1) refl

-- a text that no one character spells has not one character
not_one_character : (text : List ℕ) → IsUtf8 text → ((c : ℕ) → IsScalar c → text ≢ encode_utf8 c) → (cs : List ℕ) → chars text ≡ cs → None ≡ only cs
not_one_character text u h [] e = refl
not_one_character text u h (c ∷ []) e =
    let valid : all_scalars (c ∷ []) ≡ true = subst (λ cs. all_scalars cs ≡ true) e (scalars-chars text u) in
    let spelled : encode_utf8_all (c ∷ []) ≡ text = subst (λ cs. encode_utf8_all cs ≡ text) e (encodes-chars text u) in
    absurd (h c (and_parts _ _ valid).0 (sym spelled ∙ append-nil (encode_utf8 c)))
not_one_character text u h (c ∷ d ∷ cs) e = refl

-- the character that `parse` reads
pub character_parsed : {E : Type 0} (text : List ℕ) (r : Result ℕ E) → IsUtf8 text → ParsesChar text r → result_ok r ≡ only (chars text)
character_parsed text (Ok c) u h = sym (ap only (chars_past_char text [] c u (h ∙ sym (append-nil (encode_utf8 c))) ∙ ap (λ cs. c ∷ cs) chars-nil))
character_parsed text (Err e) u h = not_one_character text u h (chars text) refl

-- a number from a limit on
none_from_limit : {A : Type 0} (f : A → Scalar) (x : A) (limit n : ℕ) → limit ≤ n → option_map f (cond (nat_lt n limit) (Some x) None) ≡ None
none_from_limit f x limit n h = let above : nat_lt n limit ≡ false = grind (arith, nat_tests) in rw above refl

-- no kind has a number from 2 ^ 128 on
too_great : (k : ScalarType) (n : ℕ) → 2 ^ 128 ≤ n → whole_of k (pos n) ≡ None
too_great kind.U8 n h = none_from_limit scalar.U8 n (2 ^ 8) n (omega arith)
too_great kind.U16 n h = none_from_limit scalar.U16 n (2 ^ 16) n (omega arith)
too_great kind.U32 n h = none_from_limit scalar.U32 n (2 ^ 32) n (omega arith)
too_great kind.U64 n h = none_from_limit scalar.U64 n (2 ^ 64) n (omega arith)
too_great kind.U128 n h = none_from_limit scalar.U128 n (2 ^ 128) n (omega arith)
too_great kind.USize n h = none_from_limit scalar.USize n (2 ^ 64) n (omega arith)
too_great kind.I8 n h = none_from_limit scalar.I8 (pos n) (2 ^ 7) n (omega arith)
too_great kind.I16 n h = none_from_limit scalar.I16 (pos n) (2 ^ 15) n (omega arith)
too_great kind.I32 n h = none_from_limit scalar.I32 (pos n) (2 ^ 31) n (omega arith)
too_great kind.I64 n h = none_from_limit scalar.I64 (pos n) (2 ^ 63) n (omega arith)
too_great kind.I128 n h = none_from_limit scalar.I128 (pos n) (2 ^ 127) n (omega arith)
too_great kind.ISize n h = none_from_limit scalar.ISize (pos n) (2 ^ 63) n (omega arith)
too_great k n h = refl

-- no kind has a number below -2 ^ 127
too_small : (k : ScalarType) (n : ℕ) → 2 ^ 127 ≤ n → whole_of k (negsuc n) ≡ None
too_small kind.I8 n h = none_from_limit scalar.I8 (negsuc n) (2 ^ 7) n (omega arith)
too_small kind.I16 n h = none_from_limit scalar.I16 (negsuc n) (2 ^ 15) n (omega arith)
too_small kind.I32 n h = none_from_limit scalar.I32 (negsuc n) (2 ^ 31) n (omega arith)
too_small kind.I64 n h = none_from_limit scalar.I64 (negsuc n) (2 ^ 63) n (omega arith)
too_small kind.I128 n h = none_from_limit scalar.I128 (negsuc n) (2 ^ 127) n (omega arith)
too_small kind.ISize n h = none_from_limit scalar.ISize (negsuc n) (2 ^ 63) n (omega arith)
too_small k n h = refl

-- the same of a number behind a minus
too_small_written : (k : ScalarType) (n : ℕ) → 2 ^ 127 + 1 ≤ n → whole_of k (neg_ℤ (pos n)) ≡ None
too_small_written k zero h = absurd (omega arith)
too_small_written k (suc n) h = too_small k n (omega arith)

-- digits below 2 ^ 128 write each number that a kind has
read_below_limit : (k : ScalarType) (n : ℕ) (digits small : Bool) → nat_lt n (2 ^ 128) ≡ small
    → option_and_then (λ m. whole_of k (pos m)) (cond (digits && small) (Some n) None) ≡ option_and_then (whole_of k) (option_map pos (cond digits (Some n) None))
read_below_limit k n false small h = refl
read_below_limit k n true true h = refl
read_below_limit k n true false h = sym (too_great k n (grind (arith, nat_tests)))

-- digits up to 2 ^ 127 write behind a minus each number that a kind has
read_behind_minus_below_limit : (k : ScalarType) (n : ℕ) (digits small signed : Bool) → nat_lt n (2 ^ 127 + 1) ≡ small
    → option_and_then (λ z. cond signed (whole_of k z) None) (option_map (λ m. neg_ℤ (pos m)) (cond (digits && small) (Some n) None)) ≡ cond (not signed) None (option_and_then (whole_of k) (option_map (λ m. neg_ℤ (pos m)) (cond digits (Some n) None)))
read_behind_minus_below_limit k n false small true h = refl
read_behind_minus_below_limit k n false small false h = refl
read_behind_minus_below_limit k n true true true h = refl
read_behind_minus_below_limit k n true true false h = refl
read_behind_minus_below_limit k n true false true h = sym (too_small_written k n (grind (arith, nat_tests)))
read_behind_minus_below_limit k n true false false h = refl

-- of a text without a minus the code and the definition read the same number
read_without_minus : (k : ScalarType) (text : List ℕ) → has_minus text ≡ false → option_and_then (λ n. whole_of k (pos n)) (unsigned_below (2 ^ 128) text) ≡ whole_parsed k text
read_without_minus k [] h = refl
read_without_minus k (b ∷ text) h =
    let digits = without_plus (b ∷ text) in
    let same = read_below_limit k (number_after 0 digits) (are_digits digits) (nat_lt (number_after 0 digits) (2 ^ 128)) refl in
    rw h same

-- and so they do of a text with one
read_behind_minus : (k : ScalarType) (text : List ℕ) → has_minus text ≡ true → option_and_then (λ z. cond (has_negative k) (whole_of k z) None) (signed_in 127 text) ≡ whole_parsed k text
read_behind_minus k [] h = cc
read_behind_minus k (b ∷ text) h =
    let same = read_behind_minus_below_limit k (number_after 0 text) (are_digits text) (nat_lt (number_after 0 text) (2 ^ 127 + 1)) (has_negative k) refl in
    rw h same

-- the number that a text without a minus is read as
pub unsigned_read : {E : Type 0} (k : ScalarType) (text : List ℕ) (r : Result ℕ E) → has_minus text ≡ false → ParsesUnsigned 128 10 text r
    → option_and_then (λ n. whole_of k (pos n)) (result_ok r) ≡ whole_parsed k text
unsigned_read k text r h p = ap (option_and_then (λ n. whole_of k (pos n))) (unsigned_parsed 128 text r p) ∙ read_without_minus k text h

-- the number that a text with a minus is read as
pub signed_read : {E : Type 0} (k : ScalarType) (text : List ℕ) (r : Result ℤ E) → has_minus text ≡ true → ParsesSigned w128 10 text r
    → option_and_then (λ z. cond (has_negative k) (whole_of k z) None) (result_ok r) ≡ whole_parsed k text
signed_read k text r h p = ap (option_and_then (λ z. cond (has_negative k) (whole_of k z) None)) (signed_parsed w128 text r p) ∙ read_behind_minus k text h

-- the test of the first byte
pub minus_first : (text : List ℕ) → nat_eq (get_or text 0 0) 45 ≡ has_minus text
minus_first [] = refl
minus_first (b ∷ text) = refl

-- numbers below zero are of the kinds that have some
below_zero : (k : ScalarType) (n : ℕ) → cond (has_negative k) (whole_of k (negsuc n)) None ≡ whole_of k (negsuc n)
below_zero kind.U8 n = refl
below_zero k n = refl

-- an i128 is the same once it is encoded and decoded
pub i128_is_kept : {E : Type 0} (text : List ℕ) (x : ℤ) (r : Result ℤ E) → Some x ≡ result_ok r → ParsesSigned w128 10 text r → to_z w128 (of_z w128 x) ≡ x
i128_is_kept text x (Ok y) e h = let same : x ≡ y = cc in rw same (to_z-of_z w128 y (subst (SFits w128) (sym h.1) h.0.1))
i128_is_kept text x (Err f) e h = cc

-- an i128 is -1 - n where n is below 2 ^ 127
complement_tested : (k : ScalarType) (n : ℕ) (z : ℤ) (small : Bool) → nat_lt n (2 ^ 127) ≡ small → Some z ≡ cond small (Some (negsuc n)) None
    → cond (has_negative k) (whole_of k (to_z w128 (of_z w128 z))) None ≡ whole_of k (negsuc n)
complement_tested k n z true h e =
    let same : z ≡ negsuc n = cc in
    let fits : n < 2 ^ 127 = ltb-true n (2 ^ 127) h in
    ap (λ y. cond (has_negative k) (whole_of k (to_z w128 (of_z w128 y))) None) same
    ∙ ap (λ y. cond (has_negative k) (whole_of k y) None) (to_z-of_z w128 (negsuc n) (record { sfits = fits })) ∙ below_zero k n
complement_tested k n z false h e = cc

-- where there is no such i128, no kind has the number
refused_tested : (k : ScalarType) (n : ℕ) (small : Bool) → nat_lt n (2 ^ 127) ≡ small → None ≡ cond small (Some (negsuc n)) None → None ≡ whole_of k (negsuc n)
refused_tested k n true h e = cc
refused_tested k n false h e = sym (too_small k n (grind (arith, nat_tests)))

-- the number -1 - n of a kind, by way of an i128
pub complement_passed : (k : ScalarType) (n : ℕ) (z : ℤ) → Some z ≡ signed_of 127 (negsuc n)
    → cond (has_negative k) (whole_of k (to_z w128 (of_z w128 z))) None ≡ whole_of k (negsuc n)
complement_passed k n z e = complement_tested k n z (nat_lt n (2 ^ 127)) refl e

-- the same where an i128 has no such number
pub complement_refused : (k : ScalarType) (n : ℕ) → None ≡ signed_of 127 (negsuc n) → None ≡ whole_of k (negsuc n)
complement_refused k n e = refused_tested k n (nat_lt n (2 ^ 127)) refl e

-- a kind that is neither Bool, Char nor String is parsed as one of whole numbers
pub other_parsed : (k : ScalarType) (text : List ℕ) → k ≢ kind.Bool → k ≢ kind.Char → k ≢ kind.String → scalar_parsed k text ≡ whole_parsed k text
unfolding scalar_parsed
other_parsed kind.Bool text b c s = absurd (b refl)
other_parsed kind.Char text b c s = absurd (c refl)
other_parsed kind.String text b c s = absurd (s refl)
other_parsed k text b c s = refl

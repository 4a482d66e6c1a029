-- Fields: what is read is what is written, and the other way round.
use Rattle.std.proofs.Common.{◌≡◌, ℕ, ◌<◌, ◌^◌, ◌||◌, ◌==◌, Bool, true, false, not, List, [], ◌∷◌, ◌++◌, Option, None, Some, option_map, refl, sym, ap, ◌∙◌, subst, arith}
use Rattle.std.specs.Char.{is_ascii_digit}
use Rattle.std.specs.Fmt.{decimal}
use Rattle.std.specs.List.{list_all}
use Rattle.std.specs.Option.{option_and_then}
use Rattle.std.proofs.lemmas.Bool.Decides.{nat_tests}
use Rattle.std.proofs.lemmas.Bool.{cond-true, and_parts, and_from}
use Rattle.std.proofs.lemmas.Fmt.{digits_decimal}
use Rattle.std.proofs.lemmas.List.{append-nil}
use Rattle.std.proofs.lemmas.List.Folds.{list_all-append}
use Rattle.std.proofs.lemmas.Option.{option_and_then_some}
use Rattle.facet_base.proofs.Numerals.{decimal_digits}
use Rattle.facet_words.specs.Words.{is_empty, is_name, is_name_byte, number_of, reference_of}
use Rattle.facet_words.proofs.Numbers.{map_some, tested_some, number_spelled, decimal_number, reference_spelled}
use Rattle.facet_words.proofs.WordBytes.{IsWord, is_word_byte, all_pass, word_tested}
use Rattle.facet_declaration.specs.declared.parts.FieldDecl.{FieldDecl}
use Rattle.facet_declaration.specs.Cuts.{cut_at, ended_by}
use Rattle.facet_declaration.specs.Fields.{offset_from, offset_of, field_from, field_of, spell_mark, spell_field, IsField}
use Rattle.facet_declaration.proofs.CutTexts.{lacks_refused, cut_read, cut_spelled, ended_read, ended_none, ended_spelled}

-- what a field with these words is written as
abbrev in_words : List ℕ → List ℕ → List ℕ → List ℕ
in_words name shape offset = name ++ (58 ∷ (shape ++ (64 ∷ offset)))

-- digits of a number that is short
short_digits : (n : ℕ) → n < 10 ^ 9 → list_all is_ascii_digit (decimal n) ≡ true
short_digits n short =
    let fits : n < 2 ^ 64 = omega arith in
    digits_decimal decimal_digits n fits

-- an offset that was read is written as the text that it was read from
abbrev IsOffset : List ℕ → ℕ × Bool → Type 0
IsOffset text place = (decimal place.0 ++ spell_mark place.1 ≡ text) × (place.0 < 10 ^ 9)

offset_by : (text : List ℕ) (place : ℕ × Bool) (ended : Option (List ℕ)) → ended_by 33 text ≡ ended → offset_from ended text ≡ Some place → IsOffset text place
offset_by text place None is e =
    let found = map_some {B = ℕ × Bool} (λ n. (n, false)) (number_of text) place e in
    let number = number_spelled text found.0 found.1 in
    subst (IsOffset text) found.2 (append-nil (decimal found.0) ∙ sym number.0, number.1)
offset_by text place (Some digits) is e =
    let found = map_some {B = ℕ × Bool} (λ n. (n, true)) (number_of digits) place e in
    let number = number_spelled digits found.0 found.1 in
    subst (IsOffset text) found.2 (ap (λ front. front ++ (33 ∷ [])) (sym number.0) ∙ ended_spelled 33 text digits is, number.1)

offset_spelled : (text : List ℕ) (place : ℕ × Bool) → offset_of text ≡ Some place → IsOffset text place
offset_spelled text place e = offset_by text place (ended_by 33 text) refl e

-- a written offset is read
offset_read : (n : ℕ) (marked : Bool) → n < 10 ^ 9 → offset_of (decimal n ++ spell_mark marked) ≡ Some (n, marked)
offset_read n true short =
    ap (λ ended. offset_from ended (decimal n ++ (33 ∷ []))) (ended_read 33 (decimal n) (lacks_refused is_ascii_digit 33 refl (decimal n) (short_digits n short)))
    ∙ ap (option_map {U = ℕ × Bool} (λ m. (m, true))) (decimal_number n short)
offset_read n false short =
    ap offset_of (append-nil (decimal n))
    ∙ ap (λ ended. offset_from ended (decimal n)) (ended_none 33 (decimal n) (lacks_refused is_ascii_digit 33 refl (decimal n) (short_digits n short)))
    ∙ ap (option_map {U = ℕ × Bool} (λ m. (m, false))) (decimal_number n short)

-- a field that can be written, and is written as this text
abbrev IsWrittenField : List ℕ → FieldDecl → Type 0
IsWrittenField text field = IsField field × (spell_field field ≡ text)

-- a field of three words is written as these words
from_spelled : (name shape offset : List ℕ) (field : FieldDecl) → field_from name shape offset ≡ Some field → IsWrittenField (in_words name shape offset) field
from_spelled name shape offset field e =
    let tested = tested_some (is_name name) _ field e in
    option_and_then_some _ (reference_of shape) field tested.1
    (λ id found then.
    let place = map_some _ (offset_of offset) field then in
    let number = reference_spelled shape id found in
    let put = offset_spelled offset place.0 place.1 in
    subst (IsWrittenField (in_words name shape offset)) place.2
    (record { named = tested.0; shape_short = number.1; offset_short = put.1 }, λ i. name ++ (58 ∷ (sym number.0 i ++ (64 ∷ put.0 i)))))

-- a text that is a field is what this field is written as
pub field_spelled : (text : List ℕ) (field : FieldDecl) → field_of text ≡ Some field → IsField field × (spell_field field ≡ text)
field_spelled text field e =
    option_and_then_some _ (cut_at 58 text) field e
    (λ named first then.
    option_and_then_some _ (cut_at 64 named.1) field then
    (λ placed second made.
    let words = from_spelled named.0 placed.0 placed.1 field made in
    (words.0, words.1 ∙ ap (λ rest. named.0 ++ (58 ∷ rest)) (cut_spelled 64 named.1 placed second) ∙ cut_spelled 58 text named first)))

-- the words of a field that can be written are read
from_read : (field : FieldDecl) → IsField field → field_from field.name (35 ∷ decimal field.shape.0) (decimal field.offset ++ spell_mark field.sensitive) ≡ Some field
from_read field h =
    let F : ℕ → ℕ × Bool → FieldDecl = λ id place. record { name = field.name; shape = record { 0 = id }; offset = place.0; sensitive = place.1 } in
    cond-true (is_name field.name) _ _ h.named
    ∙ ap (option_and_then (λ id. option_map (F id) (offset_of (decimal field.offset ++ spell_mark field.sensitive)))) (decimal_number field.shape.0 h.shape_short)
    ∙ ap (option_map (F field.shape.0)) (offset_read field.offset field.sensitive h.offset_short)

-- what a field is written as is read as this field
pub field_read : (field : FieldDecl) → IsField field → field_of (spell_field field) ≡ Some field
field_read field h =
    let name = field.name in
    let shape = 35 ∷ decimal field.shape.0 in
    let offset = decimal field.offset ++ spell_mark field.sensitive in
    let second : List ℕ → List ℕ × List ℕ → Option FieldDecl = λ n placed. field_from n placed.0 placed.1 in
    let first : List ℕ × List ℕ → Option FieldDecl = λ named. option_and_then (second named.0) (cut_at 64 named.1) in
    let bytes : list_all is_name_byte name ≡ true = (and_parts _ _ h.named).1 in
    ap (option_and_then first) (cut_read 58 name (shape ++ (64 ∷ offset)) (lacks_refused is_name_byte 58 refl name bytes))
    ∙ ap (option_and_then (second name)) (cut_read 64 shape offset (lacks_refused is_ascii_digit 64 refl (decimal field.shape.0) (short_digits field.shape.0 h.shape_short)))
    ∙ from_read field h

-- the bytes of a field

-- a byte of a name, or one of `:#@!`
abbrev pub is_field_byte : ℕ → Bool
is_field_byte b = is_name_byte b || b == 58 || b == 35 || b == 64 || b == 33

-- bytes that pass, one behind another
pub all_append : (p : ℕ → Bool) (front back : List ℕ) → list_all p front ≡ true → list_all p back ≡ true → list_all p (front ++ back) ≡ true
all_append p front back h r = list_all-append p front back ∙ and_from _ _ h r

name_to_field : (b : ℕ) → is_name_byte b ≡ true → is_field_byte b ≡ true
name_to_field b h = grind (arith, nat_tests)

digit_to_field : (b : ℕ) → is_ascii_digit b ≡ true → is_field_byte b ≡ true
digit_to_field b h = grind (arith, nat_tests)

field_to_word : (b : ℕ) → is_field_byte b ≡ true → is_word_byte b ≡ true
field_to_word b h = grind (arith, nat_tests)

-- digits in a field
digits_bytes : (n : ℕ) → n < 10 ^ 9 → list_all is_field_byte (decimal n) ≡ true
digits_bytes n short = all_pass is_ascii_digit is_field_byte digit_to_field (decimal n) (short_digits n short)

-- the mark
mark_bytes : (marked : Bool) → list_all is_field_byte (spell_mark marked) ≡ true
mark_bytes true = refl
mark_bytes false = refl

-- each byte of a field is such a byte
pub field_bytes : (field : FieldDecl) → IsField field → list_all is_field_byte (spell_field field) ≡ true
field_bytes field h =
    let p = is_field_byte in
    let name = all_pass is_name_byte p name_to_field field.name (and_parts _ _ h.named).1 in
    let offset = all_append p (decimal field.offset) (spell_mark field.sensitive) (digits_bytes field.offset h.offset_short) (mark_bytes field.sensitive) in
    let shape = all_append p (decimal field.shape.0) (64 ∷ (decimal field.offset ++ spell_mark field.sensitive)) (digits_bytes field.shape.0 h.shape_short) offset in
    all_append p field.name (58 ∷ 35 ∷ (decimal field.shape.0 ++ (64 ∷ (decimal field.offset ++ spell_mark field.sensitive)))) name shape

-- what begins with a name isn't empty
pub name_some : (name back : List ℕ) → is_name name ≡ true → not (is_empty (name ++ back)) ≡ true
name_some [] back h = let no : ⊥ = cc in absurd no
name_some (b ∷ name) back h = refl

-- a field is one piece of a line
pub field_is_a_piece : (field : FieldDecl) → IsField field → IsWord (spell_field field)
field_is_a_piece field h =
    word_tested (spell_field field) (and_from _ _ (name_some field.name _ h.named) (all_pass is_field_byte is_word_byte field_to_word (spell_field field) (field_bytes field h)))

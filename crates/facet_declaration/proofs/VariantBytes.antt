-- The bytes of a variant: ASCII, no space and no newline, and brackets only round its fields.
use Rattle.std.proofs.Common.{◌≡◌, ℕ, ℤ, pos, negsuc, suc, ◌<◌, ◌^◌, ◌||◌, ◌==◌, Bool, true, List, [], ◌∷◌, ◌++◌, Option, None, Some, refl, subst, arith, IfSome}
use Rattle.std.specs.Char.{is_ascii_digit}
use Rattle.std.specs.Fmt.{decimal, signed_decimal}
use Rattle.std.specs.List.{list_all}
use Rattle.std.proofs.lemmas.Bool.Decides.{nat_tests}
use Rattle.std.proofs.lemmas.Bool.{and_parts, and_from}
use Rattle.std.proofs.lemmas.Fmt.{digits_decimal}
use Rattle.std.proofs.lemmas.List.{append_assoc}
use Rattle.facet_base.proofs.Numerals.{decimal_digits}
use Rattle.facet_desc.specs.declared.struct_type.StructKind.{StructKind}
use Rattle.facet_desc.specs.declared.struct_type.StructKind.TheVariants as kind
use Rattle.facet_words.specs.Words.{is_name, is_name_byte}
use Rattle.facet_words.specs.Integers.{IsInteger}
use Rattle.facet_words.proofs.WordBytes.{IsWord, is_word_byte, all_pass, word_tested}
use Rattle.facet_declaration.specs.declared.parts.FieldDecl.{FieldDecl}
use Rattle.facet_declaration.specs.declared.parts.VariantDecl.{VariantDecl}
use Rattle.facet_declaration.specs.Fields.{spell_field, spell_fields, AreFields}
use Rattle.facet_declaration.specs.Variants.{spell_discriminant, spell_body, spell_variant, IsVariant}
use Rattle.facet_declaration.proofs.CutTexts.{Lacks, lacks_refused}
use Rattle.facet_declaration.proofs.FieldWords.{all_append, name_some, is_field_byte, field_bytes}

-- a byte of a head or of fields: a byte of a field, or one of `,=-`
abbrev pub is_inner_byte : ℕ → Bool
is_inner_byte b = is_field_byte b || b == 44 || b == 61 || b == 45

name_to_inner : (b : ℕ) → is_name_byte b ≡ true → is_inner_byte b ≡ true
name_to_inner b h = grind (arith, nat_tests)

digit_to_inner : (b : ℕ) → is_ascii_digit b ≡ true → is_inner_byte b ≡ true
digit_to_inner b h = grind (arith, nat_tests)

field_to_inner : (b : ℕ) → is_field_byte b ≡ true → is_inner_byte b ≡ true
field_to_inner b h = grind (arith, nat_tests)

-- an integer
integer_bytes : (d : ℤ) → IsInteger d → list_all is_inner_byte (signed_decimal d) ≡ true
integer_bytes (pos n) h =
    let fits : n < 2 ^ 64 = omega arith in
    all_pass is_ascii_digit is_inner_byte digit_to_inner (decimal n) (digits_decimal decimal_digits n fits)
integer_bytes (negsuc n) h =
    let fits : suc n < 2 ^ 64 = omega arith in
    all_pass is_ascii_digit is_inner_byte digit_to_inner (decimal (suc n)) (digits_decimal decimal_digits (suc n) fits)

-- a discriminant
discriminant_bytes : (discriminant : Option ℤ) → IfSome discriminant IsInteger → list_all is_inner_byte (spell_discriminant discriminant) ≡ true
discriminant_bytes None h = refl
discriminant_bytes (Some d) h = integer_bytes d h

-- a name, and perhaps a discriminant
pub head_bytes : (name : List ℕ) (discriminant : Option ℤ) → is_name name ≡ true → IfSome discriminant IsInteger → list_all is_inner_byte (name ++ spell_discriminant discriminant) ≡ true
head_bytes name discriminant h r =
    all_append is_inner_byte name (spell_discriminant discriminant) (all_pass is_name_byte is_inner_byte name_to_inner name (and_parts _ _ h).1) (discriminant_bytes discriminant r)

-- a field
inner_field : (field : FieldDecl) → (list_all is_field_byte (spell_field field) ≡ true) → list_all is_inner_byte (spell_field field) ≡ true
inner_field field h = all_pass is_field_byte is_inner_byte field_to_inner (spell_field field) h

-- fields with commas between them
pub fields_bytes : (fields : List FieldDecl) → AreFields fields → list_all is_inner_byte (spell_fields fields) ≡ true
fields_bytes [] h = refl
fields_bytes (field ∷ []) h = inner_field field (field_bytes field h.0)
fields_bytes (field ∷ next ∷ fields) h =
    all_append is_inner_byte (spell_field field) (44 ∷ spell_fields (next ∷ fields)) (inner_field field (field_bytes field h.0)) (fields_bytes (next ∷ fields) h.1)

-- a byte of a variant without `(` and `)`
abbrev is_curly_byte : ℕ → Bool
is_curly_byte b = is_inner_byte b || b == 123 || b == 125

inner_to_curly : (b : ℕ) → is_inner_byte b ≡ true → is_curly_byte b ≡ true
inner_to_curly b h = grind (arith, nat_tests)

-- a variant with `{` and `}` has no `(`
pub curly_lacks : (name : List ℕ) (discriminant : Option ℤ) (fields : List FieldDecl) → is_name name ≡ true → IfSome discriminant IsInteger → AreFields fields
    → Lacks 40 (name ++ (spell_discriminant discriminant ++ spell_body kind.Struct fields))
curly_lacks name discriminant fields n r are =
    let p = is_curly_byte in
    let front = name ++ spell_discriminant discriminant in
    let head = all_pass is_inner_byte p inner_to_curly front (head_bytes name discriminant n r) in
    let inner = all_pass is_inner_byte p inner_to_curly (spell_fields fields) (fields_bytes fields are) in
    let body = all_append p (spell_fields fields) (125 ∷ []) inner refl in
    let whole = all_append p front (123 ∷ (spell_fields fields ++ (125 ∷ []))) head body in
    let same = append_assoc name (spell_discriminant discriminant) (spell_body kind.Struct fields) in
    lacks_refused p 40 refl (name ++ (spell_discriminant discriminant ++ spell_body kind.Struct fields)) (subst (λ t. list_all p t ≡ true) same whole)

inner_to_word : (b : ℕ) → is_inner_byte b ≡ true → is_word_byte b ≡ true
inner_to_word b h = grind (arith, nat_tests)

-- what stands behind the head
body_words : (k : StructKind) (fields : List FieldDecl) → AreFields fields → list_all is_word_byte (spell_body k fields) ≡ true
body_words kind.TupleStruct fields h = all_append is_word_byte (spell_fields fields) (41 ∷ []) (all_pass is_inner_byte is_word_byte inner_to_word (spell_fields fields) (fields_bytes fields h)) refl
body_words kind.Struct fields h = all_append is_word_byte (spell_fields fields) (125 ∷ []) (all_pass is_inner_byte is_word_byte inner_to_word (spell_fields fields) (fields_bytes fields h)) refl
body_words kind.Unit fields h = refl
body_words kind.Tuple fields h = refl

-- a variant is one piece of a line
pub variant_is_a_piece : (variant : VariantDecl) → IsVariant variant → IsWord (spell_variant variant)
variant_is_a_piece variant h =
    let head = all_pass is_inner_byte is_word_byte inner_to_word (variant.name ++ spell_discriminant variant.discriminant) (head_bytes variant.name variant.discriminant h.named h.numbered) in
    let whole = all_append is_word_byte (variant.name ++ spell_discriminant variant.discriminant) (spell_body variant.kind variant.fields) head (body_words variant.kind variant.fields h.fielded) in
    word_tested (spell_variant variant) (and_from _ _ (name_some variant.name _ h.named) (subst (λ t. list_all is_word_byte t ≡ true) (append_assoc variant.name (spell_discriminant variant.discriminant) (spell_body variant.kind variant.fields)) whole))

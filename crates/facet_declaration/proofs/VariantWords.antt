-- Variants: what is read is what is written, and the other way round.
use Rattle.std.proofs.Common.{◌≡◌, ℕ, ℤ, true, false, List, [], ◌∷◌, ◌++◌, Option, None, Some, option_map, refl, sym, ap, ◌∙◌, subst, IfSome}
use Rattle.std.specs.Fmt.{signed_decimal}
use Rattle.std.specs.List.{list_all}
use Rattle.std.specs.Option.{option_and_then, option_or}
use Rattle.std.proofs.lemmas.Bool.{cond-true, and_parts}
use Rattle.std.proofs.lemmas.List.{append-nil, append_assoc}
use Rattle.std.proofs.lemmas.Option.{cond_some, option_and_then_some}
use Rattle.facet_desc.specs.declared.struct_type.StructKind.{StructKind}
use Rattle.facet_desc.specs.declared.struct_type.StructKind.TheVariants as kind
use Rattle.facet_words.specs.Words.{is_name, is_name_byte}
use Rattle.facet_words.specs.Integers.{integer_of, IsInteger}
use Rattle.facet_words.proofs.Integers.{integer_spelled, integer_read}
use Rattle.facet_words.proofs.Numbers.{map_some}
use Rattle.facet_declaration.specs.declared.parts.FieldDecl.{FieldDecl}
use Rattle.facet_declaration.specs.declared.parts.VariantDecl.{VariantDecl}
use Rattle.facet_declaration.specs.Cuts.{cut_at, ended_by}
use Rattle.facet_declaration.specs.Fields.{fields_of, spell_fields, AreFields}
use Rattle.facet_declaration.specs.Variants.{named_head, head_from, head_of, with_head, with_body, bracketed, unit_of, variant_of, spell_discriminant, spell_body, spell_variant, kind_fits, IsVariant}
use Rattle.facet_declaration.proofs.CutTexts.{Lacks, lacks_refused, cut_read, cut_none, cut_spelled, ended_read, ended_spelled}
use Rattle.facet_declaration.proofs.VariantBytes.{is_inner_byte, head_bytes, fields_bytes, curly_lacks}
use Rattle.facet_declaration.proofs.FieldLists.{fields_spelled, fields_some, fields_read}

-- heads: a name, and perhaps a discriminant

-- what a head is written as
abbrev spell_head : List ℕ × Option ℤ → List ℕ
spell_head head = head.0 ++ spell_discriminant head.1

-- a head that can be written
record IsHead (head : List ℕ × Option ℤ) : Type 0 where
  named : is_name head.0 ≡ true
  numbered : IfSome head.1 IsInteger

-- a head is written as a text
abbrev IsWrittenHead : List ℕ → List ℕ × Option ℤ → Type 0
IsWrittenHead text head = IsHead head × (spell_head head ≡ text)

head_by : (text : List ℕ) (head : List ℕ × Option ℤ) (cut : Option (List ℕ × List ℕ)) → cut_at 61 text ≡ cut → head_from text cut ≡ Some head → IsWrittenHead text head
head_by text head None is e =
    let found = cond_some {A = List ℕ × Option ℤ} (is_name text) (text, None) head e in
    subst (IsWrittenHead text) found.1 (record { named = found.0; numbered = tt }, append-nil text)
head_by text head (Some parts) is e =
    option_and_then_some _ (integer_of parts.1) head e
    (λ d number then.
    let found = cond_some {A = List ℕ × Option ℤ} (is_name parts.0) (parts.0, Some d) head then in
    let whole = integer_spelled parts.1 d number in
    subst (IsWrittenHead text) found.1 (record { named = found.0; numbered = whole.0 }, ap (λ back. parts.0 ++ (61 ∷ back)) whole.1 ∙ cut_spelled 61 text parts is))

-- a text that is a head is what this head is written as
head_spelled : (text : List ℕ) (head : List ℕ × Option ℤ) → head_of text ≡ Some head → IsWrittenHead text head
head_spelled text head e = head_by text head (cut_at 61 text) refl e

-- a name without a discriminant is read
head_read : (name : List ℕ) (discriminant : Option ℤ) → is_name name ≡ true → IfSome discriminant IsInteger → head_of (name ++ spell_discriminant discriminant) ≡ Some (name, discriminant)
head_read name None h r =
    let bytes : list_all is_name_byte name ≡ true = (and_parts _ _ h).1 in
    ap head_of (append-nil name) ∙ ap (head_from name) (cut_none 61 name (lacks_refused is_name_byte 61 refl name bytes)) ∙ cond-true (is_name name) _ _ h
head_read name (Some d) h r =
    let bytes : list_all is_name_byte name ≡ true = (and_parts _ _ h).1 in
    let text = name ++ (61 ∷ signed_decimal d) in
    ap (head_from text) (cut_read 61 name (signed_decimal d) (lacks_refused is_name_byte 61 refl name bytes))
    ∙ ap (option_and_then (λ n. named_head name (Some n))) (integer_read d r) ∙ cond-true (is_name name) _ _ h

-- variants

-- a variant that can be written, and is written as this text
abbrev IsWrittenVariant : List ℕ → VariantDecl → Type 0
IsWrittenVariant text variant = IsVariant variant × (spell_variant variant ≡ text)

-- the brackets of a kind
record AreBrackets (k : StructKind) (opening closing : ℕ) : Type 0 where
  opens : is_inner_byte opening ≡ false
  closes : is_inner_byte closing ≡ false
  body : (fields : List FieldDecl) → spell_body k fields ≡ opening ∷ (spell_fields fields ++ (closing ∷ []))
  fits : (field : FieldDecl) (fields : List FieldDecl) → kind_fits k (field ∷ fields) ≡ true

round_brackets : AreBrackets kind.TupleStruct 40 41
round_brackets = record { opens = refl; closes = refl; body = λ fields. refl; fits = λ field fields. refl }

curly_brackets : AreBrackets kind.Struct 123 125
curly_brackets = record { opens = refl; closes = refl; body = λ fields. refl; fits = λ field fields. refl }

-- fields that were read fit a kind with brackets
fits_read : (k : StructKind) (opening closing : ℕ) → AreBrackets k opening closing → (text : List ℕ) (fields : List FieldDecl) → fields_of text ≡ Some fields → kind_fits k fields ≡ true
fits_read k opening closing h text [] e = absurd (fields_some text e)
fits_read k opening closing h text (field ∷ fields) e = h.fits field fields

-- a variant with brackets is written as its text
bracketed_spelled : (k : StructKind) (opening closing : ℕ) → AreBrackets k opening closing → (text : List ℕ) (variant : VariantDecl) → bracketed k opening closing text ≡ Some variant → IsWrittenVariant text variant
bracketed_spelled k opening closing h text variant e =
    option_and_then_some _ (cut_at opening text) variant e
    (λ parts first then.
    option_and_then_some _ (option_and_then fields_of (ended_by closing parts.1)) variant then
    (λ fields second made.
    option_and_then_some _ (ended_by closing parts.1) fields second
    (λ inner ended are_fields.
    let head = map_some _ (head_of parts.0) variant made in
    let front = head_spelled parts.0 head.0 head.1 in
    let middle = fields_spelled inner fields are_fields in
    let body : spell_body k fields ≡ opening ∷ parts.1 = h.body fields ∙ ap (λ t. opening ∷ (t ++ (closing ∷ []))) middle.1 ∙ ap (λ t. opening ∷ t) (ended_spelled closing parts.1 inner ended) in
    let written = sym (append_assoc head.0.0 (spell_discriminant head.0.1) (spell_body k fields)) ∙ (λ i. front.1 i ++ body i) ∙ cut_spelled opening text parts first in
    subst (IsWrittenVariant text) head.2
    (record { named = front.0.named; numbered = front.0.numbered; of_kind = fits_read k opening closing h inner fields are_fields; fielded = middle.0 }, written))))

-- one without is, too
unit_spelled : (text : List ℕ) (variant : VariantDecl) → unit_of text ≡ Some variant → IsWrittenVariant text variant
unit_spelled text variant e =
    let head = map_some _ (head_of text) variant e in
    let front = head_spelled text head.0 head.1 in
    subst (IsWrittenVariant text) head.2
    (record { named = front.0.named; numbered = front.0.numbered; of_kind = refl; fielded = tt }, ap (λ t. head.0.0 ++ t) (append-nil (spell_discriminant head.0.1)) ∙ front.1)

-- the first of two readings, or else the second
or_some : {A P : Type 0} (o q : Option A) (x : A) → option_or o q ≡ Some x → (o ≡ Some x → P) → (q ≡ Some x → P) → P
or_some None q x e here there = there e
or_some (Some y) q x e here there = here e

-- a text that is a variant is what this variant is written as
pub variant_spelled : (text : List ℕ) (variant : VariantDecl) → variant_of text ≡ Some variant → IsVariant variant × (spell_variant variant ≡ text)
variant_spelled text variant e =
    or_some _ _ variant e (bracketed_spelled kind.TupleStruct 40 41 round_brackets text variant)
    (λ more. or_some _ _ variant more (bracketed_spelled kind.Struct 123 125 curly_brackets text variant) (unit_spelled text variant))

-- a text without the opening bracket has no such variant
bracketed_none : (k : StructKind) (opening closing : ℕ) (text : List ℕ) → Lacks opening text → bracketed k opening closing text ≡ None
bracketed_none k opening closing text h = ap (option_and_then (with_body k closing)) (cut_none opening text h)

-- what a variant with brackets is written as is read as this variant
bracketed_read : (k : StructKind) (opening closing : ℕ) → AreBrackets k opening closing → (name : List ℕ) (discriminant : Option ℤ) (field : FieldDecl) (fields : List FieldDecl)
    → is_name name ≡ true → IfSome discriminant IsInteger → AreFields (field ∷ fields)
    → bracketed k opening closing (name ++ (spell_discriminant discriminant ++ spell_body k (field ∷ fields))) ≡ Some (with_head k (field ∷ fields) (name, discriminant))
bracketed_read k opening closing h name discriminant field fields n r are =
    let head = name ++ spell_discriminant discriminant in
    let inner = spell_fields (field ∷ fields) in
    let lacks_open : Lacks opening head = lacks_refused is_inner_byte opening h.opens head (head_bytes name discriminant n r) in
    let lacks_close : Lacks closing inner = lacks_refused is_inner_byte closing h.closes inner (fields_bytes (field ∷ fields) are) in
    let text : name ++ (spell_discriminant discriminant ++ spell_body k (field ∷ fields)) ≡ head ++ (opening ∷ (inner ++ (closing ∷ []))) =
    sym (append_assoc name (spell_discriminant discriminant) (spell_body k (field ∷ fields))) ∙ ap (λ body. head ++ body) (h.body (field ∷ fields)) in
    ap (bracketed k opening closing) text
    ∙ ap (option_and_then (with_body k closing)) (cut_read opening head (inner ++ (closing ∷ [])) lacks_open)
    ∙ ap (λ ended. option_and_then (λ all. option_map (with_head k all) (head_of head)) (option_and_then fields_of ended)) (ended_read closing inner lacks_close)
    ∙ ap (option_and_then (λ all. option_map (with_head k all) (head_of head))) (fields_read field fields are)
    ∙ ap (option_map (with_head k (field ∷ fields))) (head_read name discriminant n r)

-- the same by the members of the variant
parts_read : (name : List ℕ) (discriminant : Option ℤ) (k : StructKind) (fields : List FieldDecl) → is_name name ≡ true → IfSome discriminant IsInteger → kind_fits k fields ≡ true → AreFields fields
    → variant_of (name ++ (spell_discriminant discriminant ++ spell_body k fields)) ≡ Some (with_head k fields (name, discriminant))
parts_read name discriminant kind.Unit [] n r fits are =
    let head = name ++ spell_discriminant discriminant in
    let lacks : (b : ℕ) → is_inner_byte b ≡ false → Lacks b head = λ b refused. lacks_refused is_inner_byte b refused head (head_bytes name discriminant n r) in
    ap (λ t. variant_of (name ++ t)) (append-nil (spell_discriminant discriminant))
    ∙ ap (λ o. option_or o (option_or (bracketed kind.Struct 123 125 head) (unit_of head))) (bracketed_none kind.TupleStruct 40 41 head (lacks 40 refl))
    ∙ ap (λ o. option_or o (unit_of head)) (bracketed_none kind.Struct 123 125 head (lacks 123 refl))
    ∙ ap (option_map (with_head kind.Unit [])) (head_read name discriminant n r)
parts_read name discriminant kind.TupleStruct (field ∷ fields) n r fits are =
    let text = name ++ (spell_discriminant discriminant ++ spell_body kind.TupleStruct (field ∷ fields)) in
    ap (λ o. option_or o (option_or (bracketed kind.Struct 123 125 text) (unit_of text))) (bracketed_read kind.TupleStruct 40 41 round_brackets name discriminant field fields n r are)
parts_read name discriminant kind.Struct (field ∷ fields) n r fits are =
    let text = name ++ (spell_discriminant discriminant ++ spell_body kind.Struct (field ∷ fields)) in
    ap (λ o. option_or o (option_or (bracketed kind.Struct 123 125 text) (unit_of text))) (bracketed_none kind.TupleStruct 40 41 text (curly_lacks name discriminant (field ∷ fields) n r are))
    ∙ ap (λ o. option_or o (unit_of text)) (bracketed_read kind.Struct 123 125 curly_brackets name discriminant field fields n r are)
parts_read name discriminant _ _ n r fits are = let no : ⊥ = cc in absurd no

-- what a variant is written as is read as this variant
pub variant_read : (variant : VariantDecl) → IsVariant variant → variant_of (spell_variant variant) ≡ Some variant
variant_read variant h = parts_read variant.name variant.discriminant variant.kind variant.fields h.named h.numbered h.of_kind h.fielded

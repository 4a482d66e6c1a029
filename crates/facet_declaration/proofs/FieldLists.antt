-- Fields with commas between them.
use Rattle.std.proofs.Common.{◌≡◌, ℕ, List, [], ◌∷◌, map, Some, refl, ap, ◌∙◌}
use Rattle.std.specs.List.{join_with_byte}
use Rattle.std.proofs.lemmas.Bool.{or_from}
use Rattle.std.proofs.lemmas.List.Splits.{join_with_byte-slice_split}
use Rattle.facet_declaration.specs.declared.parts.FieldDecl.{FieldDecl}
use Rattle.facet_declaration.specs.Cuts.{pieces_at, read_each}
use Rattle.facet_declaration.specs.Fields.{field_of, fields_of, spell_field, spell_fields, IsField, AreFields}
use Rattle.facet_declaration.proofs.CutTexts.{lacks_refused}
use Rattle.facet_declaration.proofs.Each.{each_spelled, each_read}
use Rattle.facet_declaration.proofs.Splits.{AllLack, split_some, split_joined}
use Rattle.facet_declaration.proofs.FieldWords.{field_spelled, field_read, field_bytes, is_field_byte}

-- no field has a comma
fields_lack : (fields : List FieldDecl) → AreFields fields → AllLack 44 (map spell_field fields)
fields_lack [] h = refl
fields_lack (field ∷ fields) h = or_from _ _ (lacks_refused is_field_byte 44 refl (spell_field field) (field_bytes field h.0)) (fields_lack fields h.1)

-- a text that is fields is what they are written as
pub fields_spelled : (text : List ℕ) (fields : List FieldDecl) → fields_of text ≡ Some fields → AreFields fields × (spell_fields fields ≡ text)
fields_spelled text fields e =
    let each = each_spelled field_of spell_field IsField field_spelled (pieces_at 44 text) fields e in
    (each.0, ap (join_with_byte 44) each.1 ∙ join_with_byte-slice_split 44 text)

-- there is one at least
pub fields_some : (text : List ℕ) → fields_of text ≡ Some [] → ⊥
fields_some text e =
    let each = each_spelled field_of spell_field IsField field_spelled (pieces_at 44 text) [] e in
    let first = split_some 44 text in
    let same : [] ≡ first.0.0 ∷ first.0.1 = each.1 ∙ first.1 in
    cc

-- what fields are written as is read as these fields
pub fields_read : (field : FieldDecl) (fields : List FieldDecl) → AreFields (field ∷ fields) → fields_of (spell_fields (field ∷ fields)) ≡ Some (field ∷ fields)
fields_read field fields h =
    ap (read_each field_of) (split_joined 44 (spell_field field) (map spell_field fields) (fields_lack (field ∷ fields) h))
    ∙ each_read field_of spell_field IsField field_read (field ∷ fields) h

-- Which text a field is: `NAME:REF@NUM`, with a `!` behind it where the field is sensitive.
use Rattle.std.specs.Prelude.{◌≡◌, ℕ, ◌<◌, ◌^◌, Bool, true, false, List, [], ◌++◌, map, Option, None, Some, option_map, if◌then◌else◌, codes}
use Rattle.std.specs.Fmt.{decimal}
use Rattle.std.specs.List.{join_with_byte, AllByRecursion}
use Rattle.std.specs.Option.{option_and_then}
use Rattle.facet_words.specs.Words.{is_name, number_of, reference_of}
use Rattle.facet_declaration.specs.declared.parts.FieldDecl.{FieldDecl}
use Rattle.facet_declaration.specs.Cuts.{cut_at, ended_by, pieces_at, read_each}

-- an offset, and whether the `!` stands behind it: the digits before the `!`, if there is one, or the text
abbrev pub offset_from : Option (List ℕ) → List ℕ → Option (ℕ × Bool)
offset_from (Some digits) text = option_map (λ n. (n, true)) (number_of digits)
offset_from None text = option_map (λ n. (n, false)) (number_of text)

-- the offset that a text is, and whether a `!` stands behind it
abbrev pub offset_of : List ℕ → Option (ℕ × Bool)
offset_of text = offset_from (ended_by 33 text) text

-- the field of these three words
abbrev pub field_from : List ℕ → List ℕ → List ℕ → Option FieldDecl
field_from name shape offset =
    if is_name name
    then option_and_then (λ id. option_map (λ place. record { name = name; shape = record { 0 = id }; offset = place.0; sensitive = place.1 }) (offset_of offset)) (reference_of shape)
    else None

-- the field that a text is: cut at the first `:`, and then at the first `@`
abbrev pub field_of : List ℕ → Option FieldDecl
field_of text = option_and_then (λ named. option_and_then (λ placed. field_from named.0 placed.0 placed.1) (cut_at 64 named.1)) (cut_at 58 text)

-- the fields that a text is, with commas between them; it has one at least
abbrev pub fields_of : List ℕ → Option (List FieldDecl)
fields_of text = read_each field_of (pieces_at 44 text)

-- what marks a field as sensitive
abbrev pub spell_mark : Bool → List ℕ
spell_mark true = codes "!"
spell_mark false = []

-- the text that a field is written as
abbrev pub spell_field : FieldDecl → List ℕ
spell_field field = field.name ++ (codes ":#" ++ (decimal field.shape.0 ++ (codes "@" ++ (decimal field.offset ++ spell_mark field.sensitive))))

-- the text that fields are written as
abbrev pub spell_fields : List FieldDecl → List ℕ
spell_fields fields = join_with_byte 44 (map spell_field fields)

-- a field that can be written: its name is a name, and its numbers have at most nine digits
pub record IsField (field : FieldDecl) : Type 0 where
  pub named : is_name field.name ≡ true
  pub shape_short : field.shape.0 < 10 ^ 9
  pub offset_short : field.offset < 10 ^ 9

-- each of them is so
abbrev pub AreFields : List FieldDecl → Type 0
AreFields fields = AllByRecursion IsField fields

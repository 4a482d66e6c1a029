-- Which text a variant is: a name, perhaps a discriminant behind a `=`, and perhaps fields in `(` `)` or in `{` `}`.
use Rattle.std.specs.Prelude.{◌≡◌, ℕ, ℤ, Bool, true, false, List, [], ◌∷◌, ◌++◌, Option, None, Some, option_map, if◌then◌else◌, codes}
use Rattle.std.specs.Fmt.{signed_decimal}
use Rattle.std.specs.Option.{option_and_then, option_or, IfSome}
use Rattle.facet_desc.specs.declared.struct_type.StructKind.{StructKind}
use Rattle.facet_desc.specs.declared.struct_type.StructKind.TheVariants as kind
use Rattle.facet_words.specs.Words.{is_name}
use Rattle.facet_words.specs.Integers.{integer_of, IsInteger}
use Rattle.facet_declaration.specs.declared.parts.FieldDecl.{FieldDecl}
use Rattle.facet_declaration.specs.declared.parts.VariantDecl.{VariantDecl}
use Rattle.facet_declaration.specs.Cuts.{cut_at, ended_by}
use Rattle.facet_declaration.specs.Fields.{fields_of, spell_fields, AreFields}

-- a name and perhaps a discriminant, where the name is one
abbrev pub named_head : List ℕ → Option ℤ → Option (List ℕ × Option ℤ)
named_head name discriminant = if is_name name then Some (name, discriminant) else None

-- what stands before the brackets: a text, or the two sides of its first `=`
abbrev pub head_from : List ℕ → Option (List ℕ × List ℕ) → Option (List ℕ × Option ℤ)
head_from text None = named_head text None
head_from text (Some parts) = option_and_then (λ d. named_head parts.0 (Some d)) (integer_of parts.1)

-- the name and perhaps the discriminant that a text is
abbrev pub head_of : List ℕ → Option (List ℕ × Option ℤ)
head_of text = head_from text (cut_at 61 text)

-- the variant with this head, this kind and these fields
abbrev pub with_head : StructKind → List FieldDecl → List ℕ × Option ℤ → VariantDecl
with_head k fields head = record { name = head.0; discriminant = head.1; kind = k; fields = fields }

-- the variant of a kind whose two sides of the opening bracket these are
abbrev pub with_body : StructKind → ℕ → List ℕ × List ℕ → Option VariantDecl
with_body k closing parts = option_and_then (λ fields. option_map (with_head k fields) (head_of parts.0)) (option_and_then fields_of (ended_by closing parts.1))

-- the variant of a kind that has its fields in these brackets
abbrev pub bracketed : StructKind → ℕ → ℕ → List ℕ → Option VariantDecl
bracketed k opening closing text = option_and_then (with_body k closing) (cut_at opening text)

-- the variant without fields
abbrev pub unit_of : List ℕ → Option VariantDecl
unit_of text = option_map (with_head kind.Unit []) (head_of text)

-- the variant that a text is: with fields in `(` `)`, with fields in `{` `}`, or without
abbrev pub variant_of : List ℕ → Option VariantDecl
variant_of text = option_or (bracketed kind.TupleStruct 40 41 text) (option_or (bracketed kind.Struct 123 125 text) (unit_of text))

-- what a discriminant is written as
abbrev pub spell_discriminant : Option ℤ → List ℕ
spell_discriminant None = []
spell_discriminant (Some d) = codes "=" ++ signed_decimal d

-- what the fields of a kind are written as
abbrev pub spell_body : StructKind → List FieldDecl → List ℕ
spell_body kind.TupleStruct fields = codes "(" ++ (spell_fields fields ++ codes ")")
spell_body kind.Struct fields = codes "{" ++ (spell_fields fields ++ codes "}")
spell_body _ fields = []

-- the text that a variant is written as
abbrev pub spell_variant : VariantDecl → List ℕ
spell_variant variant = variant.name ++ (spell_discriminant variant.discriminant ++ spell_body variant.kind variant.fields)

-- the kind is `Unit` exactly where there are no fields, and else one of the two with brackets
abbrev pub kind_fits : StructKind → List FieldDecl → Bool
kind_fits kind.Unit [] = true
kind_fits kind.TupleStruct (field ∷ fields) = true
kind_fits kind.Struct (field ∷ fields) = true
kind_fits _ _ = false

-- a variant that can be written
pub record IsVariant (variant : VariantDecl) : Type 0 where
  pub named : is_name variant.name ≡ true
  pub numbered : IfSome variant.discriminant IsInteger
  pub of_kind : kind_fits variant.kind variant.fields ≡ true
  pub fielded : AreFields variant.fields

-- Words of one piece, one of them and several in a row: what is read is what is written.
use Rattle.std.proofs.Common.{◌≡◌, ℕ, ◌<◌, ◌^◌, ◌==◌, true, false, List, [], ◌∷◌, ◌++◌, map, Option, None, Some, option_map, refl, sym, ap, subst, arith}
use Rattle.std.specs.Fmt.{decimal}
use Rattle.std.specs.List.{list_all, AllByRecursion}
use Rattle.std.proofs.lemmas.Bool.Decides.{nat_tests}
use Rattle.std.proofs.lemmas.Bool.{and_parts, and_from, or_from, cond-true}
use Rattle.std.proofs.lemmas.Option.{cond_some}
use Rattle.facet_words.specs.declared.options.Opt.{Opt}
use Rattle.facet_words.specs.declared.options.Opt.TheVariants.{Repr, Packed, Id, Mod, Param, Base, Dep}
use Rattle.facet_base.specs.declared.variance_desc.VariancePosition.TheVariants as position
use Rattle.facet_words.specs.Caps.{caps_of, spell_caps}
use Rattle.facet_words.specs.FixedWords.{repr_of, spell_repr, IsRepr, kind_of, spell_kind, IsKind}
use Rattle.facet_words.specs.Options.{option_of, spell_option, IsOption}
use Rattle.facet_words.specs.Words.{is_name, is_name_byte, number_of, reference_of}
use Rattle.facet_words.proofs.CapsLetters.{caps_spelled, caps_read, caps_is_a_piece}
use Rattle.facet_words.proofs.FixedTables.{repr_spelled, repr_read, repr_is_a_piece, kind_spelled, kind_read, kind_is_a_piece}
use Rattle.facet_words.proofs.OptionWords.{option_spelled, option_read, option_is_a_piece}
use Rattle.facet_declaration.specs.declared.parts.FieldDecl.{FieldDecl}
use Rattle.facet_declaration.specs.declared.parts.VariantDecl.{VariantDecl}
use Rattle.facet_declaration.specs.Fields.{field_of, spell_field, IsField}
use Rattle.facet_declaration.specs.Variants.{variant_of, spell_variant, IsVariant}
use Rattle.facet_declaration.proofs.FieldWords.{field_spelled, field_read, field_is_a_piece}
use Rattle.facet_declaration.proofs.VariantBytes.{variant_is_a_piece}
use Rattle.facet_declaration.proofs.VariantWords.{variant_spelled, variant_read}
use Rattle.facet_words.proofs.Numbers.{map_some, decimal_number, number_spelled, reference_spelled}
use Rattle.facet_words.proofs.WordBytes.{IsWord, word_of_decimal, word_of_name, word_of_reference}
use Rattle.facet_grammar.specs.Pieces.{ArePieces}
use Rattle.facet_grammar.specs.Tokens.{name_of, shape_of, is_dotted, spell_shape, IsReference}

-- a word is read from the piece that it is written as, and from no other
pub record Spells {X : Type 0} (of : List ℕ → Option X) (Is : X → Type 0) (spell : X → List ℕ) : Type 0 where
  pub spelled : (piece : List ℕ) (x : X) → of piece ≡ Some x → Is x × (spell x ≡ piece)
  pub read : (x : X) → Is x → of (spell x) ≡ Some x
  pub whole : (x : X) → Is x → IsWord (spell x)

-- each of them is a word
pub all_words : {X : Type 0} (of : List ℕ → Option X) (Is : X → Type 0) (spell : X → List ℕ) → Spells of Is spell → (words : List X) → AllByRecursion Is words → AllByRecursion IsWord (map spell words)
all_words of Is spell laws [] h = tt
all_words of Is spell laws (word ∷ words) h = (laws.whole word h.0, all_words of Is spell laws words h.1)

-- words have no space
pub words_pieces : (pieces : List (List ℕ)) → AllByRecursion IsWord pieces → ArePieces pieces
words_pieces [] h = refl
words_pieces (piece ∷ pieces) h = or_from _ _ h.0.unspaced (words_pieces pieces h.1)

-- names
pub name_word : Spells name_of (λ name. is_name name ≡ true) (λ name. name)
name_word =
    record {
      spelled = λ piece name e. let found = cond_some (is_name piece) piece name e in (subst (λ n. is_name n ≡ true) found.1 found.0, sym found.1);
      read = λ name h. cond-true (is_name name) (Some name) None h;
      whole = word_of_name;
    }

-- numbers
pub number_word : Spells number_of (λ n. n < 10 ^ 9) (λ n. decimal n)
number_word =
    record {
      spelled = λ piece n e. let number = number_spelled piece n e in (number.1, sym number.0);
      read = decimal_number;
      whole = λ n small. let fits : n < 2 ^ 64 = omega arith in word_of_decimal n fits;
    }

-- references
pub reference_word : Spells shape_of IsReference spell_shape
reference_word =
    record {
      spelled = λ piece shape e.
          let found = map_some (λ n. record { 0 = n }) (reference_of piece) shape e in
          let number = reference_spelled piece found.0 found.1 in
          subst (λ s. (s.0 < 10 ^ 9) × (35 ∷ decimal s.0 ≡ piece)) found.2 (number.1, sym number.0);
      read = λ shape small. ap (option_map (λ n. record { 0 = n })) (reference_read shape.0 small);
      whole = λ shape. word_of_reference shape.0;
    }
  where
    reference_read : (n : ℕ) → n < 10 ^ 9 → reference_of (35 ∷ decimal n) ≡ Some n
    reference_read n small = decimal_number n small

-- capabilities
pub caps_word : Spells caps_of (λ caps. Unit {0}) spell_caps
caps_word =
    record {
      spelled = λ piece caps e. (tt, caps_spelled piece caps e);
      read = λ caps h. caps_read caps;
      whole = λ caps h. caps_is_a_piece caps;
    }

-- representations
pub repr_word : Spells repr_of IsRepr spell_repr
repr_word =
    record {
      spelled = repr_spelled;
      read = repr_read;
      whole = repr_is_a_piece;
    }

-- kinds of scalars
pub scalar_word : Spells kind_of IsKind spell_kind
scalar_word =
    record {
      spelled = kind_spelled;
      read = kind_read;
      whole = kind_is_a_piece;
    }

-- options
pub option_word : Spells option_of IsOption spell_option
option_word =
    record {
      spelled = option_spelled;
      read = option_read;
      whole = option_is_a_piece;
    }

-- fields
pub field_word : Spells field_of IsField spell_field
field_word =
    record {
      spelled = field_spelled;
      read = field_read;
      whole = field_is_a_piece;
    }

-- variants
pub variant_word : Spells variant_of IsVariant spell_variant
variant_word =
    record {
      spelled = variant_spelled;
      read = variant_read;
      whole = variant_is_a_piece;
    }

-- an option begins with a dot
pub option_dotted : (option : Opt) → is_dotted (spell_option option) ≡ true
option_dotted (Repr _) = refl
option_dotted Packed = refl
option_dotted (Id _) = refl
option_dotted (Mod _) = refl
option_dotted (Param _ _) = refl
option_dotted (Base _) = refl
option_dotted (Dep position.Covariant _) = refl
option_dotted (Dep position.Contravariant _) = refl
option_dotted (Dep position.Invariant _) = refl

-- so does each of them
pub options_dotted : (options : List Opt) → list_all is_dotted (map spell_option options) ≡ true
options_dotted [] = refl
options_dotted (option ∷ options) = and_from _ _ (option_dotted option) (options_dotted options)

-- what begins with a name doesn't
name_undotted : (name back : List ℕ) → is_name name ≡ true → is_dotted (name ++ back) ≡ false
name_undotted [] back h = let no : ⊥ = cc in absurd no
name_undotted (b ∷ name) back h =
    let bytes : list_all is_name_byte (b ∷ name) ≡ true = (and_parts _ _ h).1 in
    undotted_byte b (and_parts _ _ bytes).0
  where
    undotted_byte : (b : ℕ) → is_name_byte b ≡ true → (b == 46) ≡ false
    undotted_byte b h = grind (arith, nat_tests)

-- a field doesn't
pub field_undotted : (field : FieldDecl) → IsField field → is_dotted (spell_field field) ≡ false
field_undotted field h = name_undotted field.name _ h.named

-- nor does a variant
pub variant_undotted : (variant : VariantDecl) → IsVariant variant → is_dotted (spell_variant variant) ≡ false
variant_undotted variant h = name_undotted variant.name _ h.named

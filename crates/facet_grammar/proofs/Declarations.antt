-- What holds of each row of the table of declarations.
use Rattle.std.proofs.Common.{◌≡◌, ℕ, true, List, [], ◌∷◌, Some, refl, subst}
use Rattle.std.specs.List.{slice_get}
use Rattle.facet_declaration.specs.declared.declaration.Decl.{Decl}
use Rattle.facet_declaration.specs.declared.declaration.Decl.TheVariants as decl
use Rattle.facet_grammar.specs.declared.declaration_row.DeclRow.{DeclRow}
use Rattle.facet_grammar.specs.declared.declaration_row.DeclRow.TheVariants as row
use Rattle.facet_grammar.specs.declared.token.Token.{Token}
use Rattle.facet_grammar.specs.declared.token.Token.TheVariants.{Name, Number, Reference, Caps, Repr, Scalar, References, Options, OpaqueOptions, Fields, Variants}
use Rattle.facet_grammar.specs.Declarations.{declaration_rows, declaration_form, declaration_from, row_of_declaration, tokens_of_declaration}
use Rattle.facet_grammar.specs.Forms.{kinds_are}

-- a declaration has this row and these tokens
pub record IsDeclaration (row : DeclRow) (tokens : List Token) (declaration : Decl) : Type 0 where
  pub same_row : row_of_declaration declaration ≡ row
  pub same_tokens : tokens_of_declaration declaration ≡ tokens

-- the same of a declaration that is known
known_declaration : (known declaration : Decl) → Some known ≡ Some declaration → IsDeclaration (row_of_declaration known) (tokens_of_declaration known) declaration
known_declaration known declaration e =
    let same : known ≡ declaration = cc in
    subst (IsDeclaration (row_of_declaration known) (tokens_of_declaration known)) same (record { same_row = refl; same_tokens = refl })

-- the declaration that tokens are has these tokens
pub declaration_has_tokens : (r : DeclRow) (tokens : List Token) (declaration : Decl) → declaration_from r tokens ≡ Some declaration → IsDeclaration r tokens declaration
declaration_has_tokens row.OptionOf (Reference shape ∷ []) = known_declaration (decl.OptionOf shape)
declaration_has_tokens row.ListOf (Reference shape ∷ []) = known_declaration (decl.ListOf shape)
declaration_has_tokens row.SetOf (Reference shape ∷ []) = known_declaration (decl.SetOf shape)
declaration_has_tokens row.SliceOf (Reference shape ∷ []) = known_declaration (decl.SliceOf shape)
declaration_has_tokens row.BoxOf (Reference shape ∷ []) = known_declaration (decl.BoxOf shape)
declaration_has_tokens row.BoxedSliceOf (Reference shape ∷ []) = known_declaration (decl.BoxedSliceOf shape)
declaration_has_tokens row.ArrayOf (Reference shape ∷ Number n ∷ []) = known_declaration (decl.ArrayOf shape n)
declaration_has_tokens row.MapOf (Reference first ∷ Reference second ∷ []) = known_declaration (decl.MapOf first second)
declaration_has_tokens row.ResultOf (Reference first ∷ Reference second ∷ []) = known_declaration (decl.ResultOf first second)
declaration_has_tokens row.TupleOf (References shapes ∷ []) = known_declaration (decl.TupleOf shapes)
declaration_has_tokens row.Struct (Name name ∷ Number size ∷ Number align ∷ Caps caps ∷ Options options ∷ Fields fields ∷ []) = known_declaration (decl.Struct name size align caps options fields)
declaration_has_tokens row.TupleStruct (Name name ∷ Number size ∷ Number align ∷ Caps caps ∷ Options options ∷ Fields fields ∷ []) = known_declaration (decl.TupleStruct name size align caps options fields)
declaration_has_tokens row.Enum (Name name ∷ Number size ∷ Number align ∷ Repr repr ∷ Caps caps ∷ Options options ∷ Variants variants ∷ []) = known_declaration (decl.Enum name size align repr caps options variants)
declaration_has_tokens row.Opaque (Name name ∷ Number size ∷ Number align ∷ OpaqueOptions options ∷ []) = known_declaration (decl.Opaque name size align options)
declaration_has_tokens row.OpaqueUnsized (Name name ∷ OpaqueOptions options ∷ []) = known_declaration (decl.OpaqueUnsized name options)
declaration_has_tokens row.Scalar (Name name ∷ Scalar scalar ∷ Number size ∷ Number align ∷ Caps caps ∷ []) = known_declaration (decl.Scalar name scalar size align caps)
declaration_has_tokens _ _ = λ declaration e. let no : ⊥ = cc in absurd no

-- a declaration is read back from its tokens, which are of the kinds of its row's form, and its row is in the table
pub record IsListedDeclaration (declaration : Decl) : Type 0 where
  pub index : ℕ
  pub listed : slice_get declaration_rows index ≡ Some (row_of_declaration declaration)
  pub back : declaration_from (row_of_declaration declaration) (tokens_of_declaration declaration) ≡ Some declaration
  pub kinds : kinds_are (declaration_form (row_of_declaration declaration)) (tokens_of_declaration declaration) ≡ true

-- each declaration of the enum
pub is_listed_declaration : (declaration : Decl) → IsListedDeclaration declaration
is_listed_declaration (decl.OptionOf _) = record { index = 0; listed = refl; back = refl; kinds = refl }
is_listed_declaration (decl.ListOf _) = record { index = 1; listed = refl; back = refl; kinds = refl }
is_listed_declaration (decl.SetOf _) = record { index = 2; listed = refl; back = refl; kinds = refl }
is_listed_declaration (decl.SliceOf _) = record { index = 3; listed = refl; back = refl; kinds = refl }
is_listed_declaration (decl.BoxOf _) = record { index = 4; listed = refl; back = refl; kinds = refl }
is_listed_declaration (decl.BoxedSliceOf _) = record { index = 5; listed = refl; back = refl; kinds = refl }
is_listed_declaration (decl.ArrayOf _ _) = record { index = 6; listed = refl; back = refl; kinds = refl }
is_listed_declaration (decl.MapOf _ _) = record { index = 7; listed = refl; back = refl; kinds = refl }
is_listed_declaration (decl.ResultOf _ _) = record { index = 8; listed = refl; back = refl; kinds = refl }
is_listed_declaration (decl.TupleOf _) = record { index = 9; listed = refl; back = refl; kinds = refl }
is_listed_declaration (decl.Struct _ _ _ _ _ _) = record { index = 10; listed = refl; back = refl; kinds = refl }
is_listed_declaration (decl.TupleStruct _ _ _ _ _ _) = record { index = 11; listed = refl; back = refl; kinds = refl }
is_listed_declaration (decl.Enum _ _ _ _ _ _ _) = record { index = 12; listed = refl; back = refl; kinds = refl }
is_listed_declaration (decl.Opaque _ _ _ _) = record { index = 13; listed = refl; back = refl; kinds = refl }
is_listed_declaration (decl.OpaqueUnsized _ _) = record { index = 14; listed = refl; back = refl; kinds = refl }
is_listed_declaration (decl.Scalar _ _ _ _ _) = record { index = 15; listed = refl; back = refl; kinds = refl }

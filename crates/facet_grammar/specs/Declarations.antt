-- The table of declarations.
use Rattle.std.specs.Prelude.{List, [], ◌∷◌, Option, None, Some}
use Rattle.facet_declaration.specs.declared.declaration.Decl.{Decl}
use Rattle.facet_declaration.specs.declared.declaration.Decl.TheVariants as decl
use Rattle.facet_grammar.specs.declared.declaration_row.DeclRow.{DeclRow}
use Rattle.facet_grammar.specs.declared.declaration_row.DeclRow.TheVariants as row
use Rattle.facet_grammar.specs.declared.keyword.Keyword.TheVariants as keyword
use Rattle.facet_grammar.specs.declared.token.Kind.TheVariants as kind
use Rattle.facet_grammar.specs.declared.token.Part.{Part}
use Rattle.facet_grammar.specs.declared.token.Part.TheVariants.{Keyword, Token}
use Rattle.facet_grammar.specs.declared.token.Token.{Token as AToken}
use Rattle.facet_grammar.specs.declared.token.Token.TheVariants.{Name, Number, Reference, Caps, Repr, Scalar, References, Options, OpaqueOptions, Fields, Variants}

-- the rows, in the order in which they are tried
abbrev pub declaration_rows : List DeclRow
declaration_rows = row.OptionOf ∷ row.ListOf ∷ row.SetOf ∷ row.SliceOf ∷ row.BoxOf ∷ row.BoxedSliceOf ∷ row.ArrayOf ∷ row.MapOf ∷ row.ResultOf ∷ row.TupleOf ∷ row.Struct ∷ row.TupleStruct ∷ row.Enum ∷ row.Opaque ∷ row.OpaqueUnsized ∷ row.Scalar ∷ []

-- the keywords and the kinds of tokens, in order
abbrev pub declaration_form : DeclRow → List Part
declaration_form row.OptionOf = Keyword keyword.Shape ∷ Keyword keyword.Option ∷ Token kind.Reference ∷ []
declaration_form row.ListOf = Keyword keyword.Shape ∷ Keyword keyword.List ∷ Token kind.Reference ∷ []
declaration_form row.SetOf = Keyword keyword.Shape ∷ Keyword keyword.Set ∷ Token kind.Reference ∷ []
declaration_form row.SliceOf = Keyword keyword.Shape ∷ Keyword keyword.Slice ∷ Token kind.Reference ∷ []
declaration_form row.BoxOf = Keyword keyword.Shape ∷ Keyword keyword.Box ∷ Token kind.Reference ∷ []
declaration_form row.BoxedSliceOf = Keyword keyword.Shape ∷ Keyword keyword.BoxedSlice ∷ Token kind.Reference ∷ []
declaration_form row.ArrayOf = Keyword keyword.Shape ∷ Keyword keyword.Array ∷ Token kind.Reference ∷ Token kind.Number ∷ []
declaration_form row.MapOf = Keyword keyword.Shape ∷ Keyword keyword.Map ∷ Token kind.Reference ∷ Token kind.Reference ∷ []
declaration_form row.ResultOf = Keyword keyword.Shape ∷ Keyword keyword.Result ∷ Token kind.Reference ∷ Token kind.Reference ∷ []
declaration_form row.TupleOf = Keyword keyword.Shape ∷ Keyword keyword.Tuple ∷ Token kind.References ∷ []
declaration_form row.Struct = Keyword keyword.Shape ∷ Keyword keyword.Struct ∷ Token kind.Name ∷ Token kind.Number ∷ Token kind.Number ∷ Token kind.Caps ∷ Token kind.Options ∷ Token kind.Fields ∷ []
declaration_form row.TupleStruct = Keyword keyword.Shape ∷ Keyword keyword.TupleStruct ∷ Token kind.Name ∷ Token kind.Number ∷ Token kind.Number ∷ Token kind.Caps ∷ Token kind.Options ∷ Token kind.Fields ∷ []
declaration_form row.Enum = Keyword keyword.Shape ∷ Keyword keyword.Enum ∷ Token kind.Name ∷ Token kind.Number ∷ Token kind.Number ∷ Token kind.Repr ∷ Token kind.Caps ∷ Token kind.Options ∷ Token kind.Variants ∷ []
declaration_form row.Opaque = Keyword keyword.Shape ∷ Keyword keyword.Opaque ∷ Token kind.Name ∷ Token kind.Number ∷ Token kind.Number ∷ Token kind.OpaqueOptions ∷ []
declaration_form row.OpaqueUnsized = Keyword keyword.Shape ∷ Keyword keyword.Opaque ∷ Token kind.Name ∷ Keyword keyword.Unsized ∷ Token kind.OpaqueOptions ∷ []
declaration_form row.Scalar = Keyword keyword.Shape ∷ Keyword keyword.Scalar ∷ Token kind.Name ∷ Token kind.Scalar ∷ Token kind.Number ∷ Token kind.Number ∷ Token kind.Caps ∷ []

-- the declaration of a row that has these tokens
abbrev pub declaration_from : DeclRow → List AToken → Option Decl
declaration_from row.OptionOf (Reference shape ∷ []) = Some (decl.OptionOf shape)
declaration_from row.ListOf (Reference shape ∷ []) = Some (decl.ListOf shape)
declaration_from row.SetOf (Reference shape ∷ []) = Some (decl.SetOf shape)
declaration_from row.SliceOf (Reference shape ∷ []) = Some (decl.SliceOf shape)
declaration_from row.BoxOf (Reference shape ∷ []) = Some (decl.BoxOf shape)
declaration_from row.BoxedSliceOf (Reference shape ∷ []) = Some (decl.BoxedSliceOf shape)
declaration_from row.ArrayOf (Reference shape ∷ Number n ∷ []) = Some (decl.ArrayOf shape n)
declaration_from row.MapOf (Reference first ∷ Reference second ∷ []) = Some (decl.MapOf first second)
declaration_from row.ResultOf (Reference first ∷ Reference second ∷ []) = Some (decl.ResultOf first second)
declaration_from row.TupleOf (References shapes ∷ []) = Some (decl.TupleOf shapes)
declaration_from row.Struct (Name name ∷ Number size ∷ Number align ∷ Caps caps ∷ Options options ∷ Fields fields ∷ []) = Some (decl.Struct name size align caps options fields)
declaration_from row.TupleStruct (Name name ∷ Number size ∷ Number align ∷ Caps caps ∷ Options options ∷ Fields fields ∷ []) = Some (decl.TupleStruct name size align caps options fields)
declaration_from row.Enum (Name name ∷ Number size ∷ Number align ∷ Repr repr ∷ Caps caps ∷ Options options ∷ Variants variants ∷ []) = Some (decl.Enum name size align repr caps options variants)
declaration_from row.Opaque (Name name ∷ Number size ∷ Number align ∷ OpaqueOptions options ∷ []) = Some (decl.Opaque name size align options)
declaration_from row.OpaqueUnsized (Name name ∷ OpaqueOptions options ∷ []) = Some (decl.OpaqueUnsized name options)
declaration_from row.Scalar (Name name ∷ Scalar scalar ∷ Number size ∷ Number align ∷ Caps caps ∷ []) = Some (decl.Scalar name scalar size align caps)
declaration_from _ _ = None

-- the row of a declaration
abbrev pub row_of_declaration : Decl → DeclRow
row_of_declaration (decl.OptionOf shape) = row.OptionOf
row_of_declaration (decl.ListOf shape) = row.ListOf
row_of_declaration (decl.SetOf shape) = row.SetOf
row_of_declaration (decl.SliceOf shape) = row.SliceOf
row_of_declaration (decl.BoxOf shape) = row.BoxOf
row_of_declaration (decl.BoxedSliceOf shape) = row.BoxedSliceOf
row_of_declaration (decl.ArrayOf shape n) = row.ArrayOf
row_of_declaration (decl.MapOf first second) = row.MapOf
row_of_declaration (decl.ResultOf first second) = row.ResultOf
row_of_declaration (decl.TupleOf shapes) = row.TupleOf
row_of_declaration (decl.Struct name size align caps options fields) = row.Struct
row_of_declaration (decl.TupleStruct name size align caps options fields) = row.TupleStruct
row_of_declaration (decl.Enum name size align repr caps options variants) = row.Enum
row_of_declaration (decl.Opaque name size align options) = row.Opaque
row_of_declaration (decl.OpaqueUnsized name options) = row.OpaqueUnsized
row_of_declaration (decl.Scalar name scalar size align caps) = row.Scalar

-- the tokens of a declaration
abbrev pub tokens_of_declaration : Decl → List AToken
tokens_of_declaration (decl.OptionOf shape) = Reference shape ∷ []
tokens_of_declaration (decl.ListOf shape) = Reference shape ∷ []
tokens_of_declaration (decl.SetOf shape) = Reference shape ∷ []
tokens_of_declaration (decl.SliceOf shape) = Reference shape ∷ []
tokens_of_declaration (decl.BoxOf shape) = Reference shape ∷ []
tokens_of_declaration (decl.BoxedSliceOf shape) = Reference shape ∷ []
tokens_of_declaration (decl.ArrayOf shape n) = Reference shape ∷ Number n ∷ []
tokens_of_declaration (decl.MapOf first second) = Reference first ∷ Reference second ∷ []
tokens_of_declaration (decl.ResultOf first second) = Reference first ∷ Reference second ∷ []
tokens_of_declaration (decl.TupleOf shapes) = References shapes ∷ []
tokens_of_declaration (decl.Struct name size align caps options fields) = Name name ∷ Number size ∷ Number align ∷ Caps caps ∷ Options options ∷ Fields fields ∷ []
tokens_of_declaration (decl.TupleStruct name size align caps options fields) = Name name ∷ Number size ∷ Number align ∷ Caps caps ∷ Options options ∷ Fields fields ∷ []
tokens_of_declaration (decl.Enum name size align repr caps options variants) = Name name ∷ Number size ∷ Number align ∷ Repr repr ∷ Caps caps ∷ Options options ∷ Variants variants ∷ []
tokens_of_declaration (decl.Opaque name size align options) = Name name ∷ Number size ∷ Number align ∷ OpaqueOptions options ∷ []
tokens_of_declaration (decl.OpaqueUnsized name options) = Name name ∷ OpaqueOptions options ∷ []
tokens_of_declaration (decl.Scalar name scalar size align caps) = Name name ∷ Scalar scalar ∷ Number size ∷ Number align ∷ Caps caps ∷ []

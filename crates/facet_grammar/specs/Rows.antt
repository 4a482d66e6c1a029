-- The table of commands.
use Rattle.std.specs.Prelude.{List, [], ◌∷◌, map, Option, None, Some, option_map}
use Rattle.facet_grammar.specs.declared.command.Command.{Command}
use Rattle.facet_grammar.specs.declared.command.Command.TheVariants.{Shape, Seal, Put, Default}
use Rattle.facet_grammar.specs.declared.keyword.Keyword.TheVariants as keyword
use Rattle.facet_grammar.specs.declared.row.Row.{Row}
use Rattle.facet_grammar.specs.declared.row.Row.TheVariants as row
use Rattle.facet_grammar.specs.declared.token.Kind.TheVariants as kind
use Rattle.facet_grammar.specs.declared.token.Part.{Part}
use Rattle.facet_grammar.specs.declared.token.Part.TheVariants.{Keyword, Token}
use Rattle.facet_grammar.specs.declared.token.Token.{Token as AToken}
use Rattle.facet_grammar.specs.declared.token.Token.TheVariants.{Name, Reference, Rest}
use Rattle.facet_grammar.specs.Declarations.{declaration_rows, declaration_form, declaration_from, row_of_declaration, tokens_of_declaration}

-- the rows, in the order in which they are tried
abbrev pub rows : List Row
rows = row.Put ∷ row.Seal ∷ row.Default ∷ map row.Shape declaration_rows

-- the keywords and the kinds of tokens, in order
abbrev pub form_of : Row → List Part
form_of (row.Shape declaration) = declaration_form declaration
form_of row.Seal = Keyword keyword.Seal ∷ []
form_of row.Put = Keyword keyword.Put ∷ Token kind.Name ∷ Token kind.Reference ∷ Token kind.Rest ∷ []
form_of row.Default = Keyword keyword.Default ∷ Token kind.Name ∷ Token kind.Reference ∷ []

-- the command of a row that has these tokens
abbrev pub command_from : Row → List AToken → Option Command
command_from (row.Shape declaration) tokens = option_map Shape (declaration_from declaration tokens)
command_from row.Seal [] = Some Seal
command_from row.Put (Name name ∷ Reference shape ∷ Rest text ∷ []) = Some (Put name shape text)
command_from row.Default (Name name ∷ Reference shape ∷ []) = Some (Default name shape)
command_from _ _ = None

-- the row of a command
abbrev pub row_of : Command → Row
row_of (Shape declaration) = row.Shape (row_of_declaration declaration)
row_of Seal = row.Seal
row_of (Put name shape text) = row.Put
row_of (Default name shape) = row.Default

-- the tokens of a command
abbrev pub tokens_of : Command → List AToken
tokens_of (Shape declaration) = tokens_of_declaration declaration
tokens_of Seal = []
tokens_of (Put name shape text) = Name name ∷ Reference shape ∷ Rest text ∷ []
tokens_of (Default name shape) = Name name ∷ Reference shape ∷ []

-- What holds of each row of the table of commands.
use Rattle.std.proofs.Common.{◌≡◌, ℕ, suc, true, List, [], ◌∷◌, Some, option_map, refl, ap, ◌∙◌, subst}
use Rattle.std.specs.List.{slice_get}
use Rattle.facet_grammar.specs.declared.token.Token.{Token}
use Rattle.facet_grammar.specs.declared.token.Token.TheVariants.{Name, Reference, Rest}
use Rattle.facet_grammar.specs.declared.row.Row.{Row}
use Rattle.facet_grammar.specs.declared.row.Row.TheVariants as row
use Rattle.facet_grammar.specs.declared.command.Command.{Command}
use Rattle.facet_grammar.specs.declared.command.Command.TheVariants.{Shape, Seal, Put, Default}
use Rattle.facet_grammar.specs.Rows.{rows, form_of, command_from, row_of, tokens_of}
use Rattle.facet_grammar.specs.Forms.{kinds_are}
use Rattle.facet_grammar.proofs.Declarations.{declaration_has_tokens, is_listed_declaration}
use Rattle.facet_words.proofs.Numbers.{map_some}
use Rattle.facet_grammar.specs.Declarations.{declaration_rows, declaration_from}
use Rattle.std.proofs.lemmas.Option.{slice_get-map}

-- a command has this row and these tokens
pub record IsOf (row : Row) (tokens : List Token) (command : Command) : Type 0 where
  pub same_row : row_of command ≡ row
  pub same_tokens : tokens_of command ≡ tokens

-- the same of a command that is known
known_command : (known command : Command) → Some known ≡ Some command → IsOf (row_of known) (tokens_of known) command
known_command known command e =
    let same : known ≡ command = cc in
    subst (IsOf (row_of known) (tokens_of known)) same (record { same_row = refl; same_tokens = refl })

-- the command that tokens are has these tokens
pub command_has_tokens : (r : Row) (tokens : List Token) (command : Command) → command_from r tokens ≡ Some command → IsOf r tokens command
command_has_tokens row.Put (Name name ∷ Reference shape ∷ Rest text ∷ []) = known_command (Put name shape text)
command_has_tokens row.Seal [] = known_command Seal
command_has_tokens row.Default (Name name ∷ Reference shape ∷ []) = known_command (Default name shape)
command_has_tokens (row.Shape declaration) tokens = λ command e.
    let found = map_some Shape (declaration_from declaration tokens) command e in
    let known = declaration_has_tokens declaration tokens found.0 found.1 in
    subst (IsOf (row.Shape declaration) tokens) found.2 (record { same_row = ap row.Shape known.same_row; same_tokens = known.same_tokens })
command_has_tokens _ _ = λ command e. let no : ⊥ = cc in absurd no

-- a command is read back from its tokens, which are of the kinds of its row's form, and its row is in the table
pub record IsListed (command : Command) : Type 0 where
  pub index : ℕ
  pub listed : slice_get rows index ≡ Some (row_of command)
  pub back : command_from (row_of command) (tokens_of command) ≡ Some command
  pub kinds : kinds_are (form_of (row_of command)) (tokens_of command) ≡ true

-- each command of the enum
pub is_listed : (command : Command) → IsListed command
is_listed (Shape declaration) =
    let listed = is_listed_declaration declaration in
    record {
      index = suc (suc (suc listed.index));
      listed = slice_get-map row.Shape declaration_rows listed.index ∙ ap (option_map row.Shape) listed.listed;
      back = ap (option_map Shape) listed.back;
      kinds = listed.kinds;
    }
is_listed Seal = record { index = 1; listed = refl; back = refl; kinds = refl }
is_listed (Default _ _) = record { index = 2; listed = refl; back = refl; kinds = refl }
is_listed (Put _ _ _) = record { index = 0; listed = refl; back = refl; kinds = refl }

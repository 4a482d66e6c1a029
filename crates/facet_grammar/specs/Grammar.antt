-- Which command a line is, and how it is written.
use Rattle.std.specs.Prelude.{ℕ, List, [], ◌∷◌, Option, None}
use Rattle.std.specs.Option.{option_and_then, option_or}
use Rattle.facet_grammar.specs.declared.row.Row.{Row}
use Rattle.facet_grammar.specs.declared.command.Command.{Command}
use Rattle.facet_grammar.specs.Rows.{rows, form_of, command_from, row_of, tokens_of}
use Rattle.facet_grammar.specs.Pieces.{pieces_of, joined}
use Rattle.facet_grammar.specs.Forms.{read_tokens, spell_tokens, AreTokens}

-- the command of a row that the pieces of a line are
abbrev pub read_row : Row → List (List ℕ) → Option Command
read_row row pieces = option_and_then (command_from row) (read_tokens (form_of row) pieces)

-- that of the first row that has one
abbrev pub read_rows : List Row → List (List ℕ) → Option Command
read_rows [] pieces = None
read_rows (row ∷ rows) pieces = option_or (read_row row pieces) (read_rows rows pieces)

-- the command that a line is, if it is one
unfoldable pub command_of : List ℕ → Option Command
command_of line = read_rows rows (pieces_of line)

-- the line that a command is written as
abbrev pub spelling : Command → List ℕ
spelling command = joined (spell_tokens (form_of (row_of command)) (tokens_of command))

-- the command's tokens can be written
abbrev pub IsWritable : Command → Type 0
IsWritable command = AreTokens (tokens_of command)

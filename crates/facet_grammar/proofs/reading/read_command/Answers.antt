use Rattle.std.proofs.Common.{◌≡◌, IfOk, Option, None, Some, refl, ap, subst}
use Rattle.facet_grammar.specs.declared.command.Command.{Command}
use Rattle.facet_grammar.specs.Grammar.{command_of, read_rows}
use Rattle.facet_grammar.specs.Rows.{rows}
use Rattle.facet_grammar.specs.Pieces.{pieces_of}
use Rattle.facet_grammar.proofs.CommandTexts.{command_text}
use Rattle.facet_grammar.proofs.reading.read_command.Goals as goal

pub returns-in-Ok : goal.returns-in-Ok
unfolding command_of
returns-in-Ok c =
    subst (λ command. IfOk c.read_rows.result (λ found. found ≡ command)) (ap (λ text. read_rows rows (pieces_of text)) c.in-Ok.ensures.cases.0) c.read_rows.ensures

none_read : (found : Option Command) → ((command : Command) → found ≡ Some command → ⊥) → None ≡ found
none_read None h = refl
none_read (Some command) h = absurd (h command refl)

pub returns-in-Err : goal.returns-in-Err
returns-in-Err c = none_read _ (λ command e. c.in-Err.ensures.cases.0 (command_text c.args.line.now command e).0)

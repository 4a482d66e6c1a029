-- A tuple that a line declares has 1 to 12 parts.
use Rattle.std.proofs.Common.{◌≡◌, ℕ, List, Option, None, Some, sym}
use Rattle.std.proofs.lemmas.Bool.{and_parts, leb-true}
use Rattle.facet_declaration.specs.declared.declaration.Decl.TheVariants as decl
use Rattle.facet_grammar.specs.Grammar.{command_of}
use Rattle.facet_grammar.specs.declared.command.Command.{Command}
use Rattle.facet_grammar.specs.declared.command.Command.TheVariants.{Shape}
use Rattle.facet_grammar.proofs.Spellings.{command_spelled}
use Rattle.facet_session.specs.Interpreter.{HasParts}

pub has_parts : (line : List ℕ) (command : Option Command) → command ≡ command_of line → HasParts command
has_parts line None is = tt
has_parts line (Some (Shape (decl.TupleOf ts))) is =
    let written = (command_spelled line (Shape (decl.TupleOf ts)) (sym is)).1 in
    let few = and_parts _ _ written.0.0 in
    (leb-true _ _ few.0, leb-true _ _ few.1)
has_parts line (Some _) is = tt

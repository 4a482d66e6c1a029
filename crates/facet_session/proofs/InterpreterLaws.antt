-- The laws of turns hold of each step of the interpreter.
use Rattle.std.proofs.Common.{ℕ, List, codes, Option, Some, None, refl, arith}
use Rattle.facet_leaf.specs.LeafModel.{LeafModel}
use Rattle.facet_grammar.specs.declared.command.Command.{Command}
use Rattle.facet_grammar.specs.declared.command.Command.TheVariants.{Default, Put, Seal, Shape}
use Rattle.facet_session.specs.declared.refusal.Refusal.TheVariants.{Syntax}
use Rattle.facet_grammar.specs.Grammar.{command_of}
use Rattle.facet_session.specs.Interpreter.{turn_of, next, last}
use Rattle.facet_session.specs.State.{State}
use Rattle.facet_session.proofs.DefaultLemmas.{default_laws}
use Rattle.facet_session.proofs.PutLemmas.{put_laws}
use Rattle.facet_session.proofs.SealLemmas.{seal_laws}
use Rattle.facet_session.proofs.ShapeLemmas.{shape_laws}
use Rattle.facet_session.proofs.TurnLaws.{TurnLaws, one_line, refused_laws}

turn_laws : {L : Type 0} (m : LeafModel L) (state : State L) (command : Option Command) → TurnLaws state (turn_of m state command)
turn_laws m state None = refused_laws state Syntax
turn_laws m state (Some (Shape decl)) = shape_laws m state decl
turn_laws m state (Some Seal) = seal_laws m state
turn_laws m state (Some (Put name s text)) = put_laws m state name s.0 text
turn_laws m state (Some (Default name s)) = default_laws m state name s.0

pub next_laws : {L : Type 0} (m : LeafModel L) (state : State L) (line : List ℕ) → TurnLaws state (next m state line)
unfolding next
next_laws m state line = turn_laws m state (command_of line)

pub last_laws : {L : Type 0} (state : State L) → TurnLaws state (last state)
last_laws state = record { balance = λ p. omega arith; words = one_line (codes "end") refl }

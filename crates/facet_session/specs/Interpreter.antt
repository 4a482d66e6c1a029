-- What each line does to a state.
use Rattle.std.specs.Prelude.{ℕ, List, [], Option, None, Some, codes, ⊤}
use Rattle.facet_leaf.specs.LeafModel.{LeafModel}
use Rattle.facet_grammar.specs.Grammar.{command_of}
use Rattle.facet_declare.specs.Outcome.{HasPartsOfTuple}
use Rattle.facet_session.specs.commands.Default.{default}
use Rattle.facet_session.specs.commands.Put.{put}
use Rattle.facet_session.specs.commands.Seal.{seal}
use Rattle.facet_session.specs.commands.Shape.{shape}
use Rattle.facet_grammar.specs.declared.command.Command.{Command}
use Rattle.facet_grammar.specs.declared.command.Command.TheVariants.{Default, Put, Seal, Shape}
use Rattle.facet_session.specs.declared.refusal.Refusal.TheVariants.{Syntax}
pub use Rattle.facet_session.specs.State.{Entry, State, first_state, leaves_of_entries}
pub use Rattle.facet_session.specs.Turn.{Turn, refused, text_of}

-- by the command, where the line is one
abbrev pub turn_of : {L : Type 0} → LeafModel L → State L → Option Command → Turn L
turn_of m state None = refused state Syntax
turn_of m state (Some (Shape decl)) = shape m state decl
turn_of m state (Some Seal) = seal m state
turn_of m state (Some (Put name s text)) = put m state name s.0 text
turn_of m state (Some (Default name s)) = default m state name s.0

-- where it declares a tuple, that has 1 to 12 parts
abbrev pub HasParts : Option Command → Type 0
HasParts (Some (Shape decl)) = HasPartsOfTuple decl
HasParts _ = ⊤

-- one step
unfoldable pub next : {L : Type 0} → LeafModel L → State L → List ℕ → Turn L
next m state line = turn_of m state (command_of line)

-- the last step, which drops all
abbrev pub last : {L : Type 0} → State L → Turn L
last state = record { state = record { registry = state.registry; entries = [] }; words = codes "end"; made = []; dropped = leaves_of_entries state.entries }

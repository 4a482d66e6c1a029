-- What a command leaves that makes a whole value.
use Rattle.std.specs.Prelude.{ℕ, List, [], codes}
use Rattle.facet_make.specs.Made as making
use Rattle.facet_make.specs.Made.{Made}
use Rattle.facet_trees.specs.Value.{Value, leaves}
use Rattle.facet_session.specs.Refusal.{words_of}
use Rattle.facet_session.specs.State.{State, with_entry}
use Rattle.facet_session.specs.Turn.{Turn}
use Rattle.facet_session.specs.declared.refusal.Refusal.TheVariants.{Unsupported}

-- the value that is made is that of a new entry; of one that is refused, the leaves that were taken back are named as made and as dropped
abbrev pub add_made : {L : Type 0} → State L → List ℕ → ℕ → Made (Value L) L → Turn L
add_made state name s (making.made v) =
    record { state = with_entry state (record { name = name; shape = s; value = v }); words = codes "ok"; made = leaves v; dropped = [] }
add_made state name s (making.refused taken) = record { state = state; words = words_of Unsupported; made = taken; dropped = taken }

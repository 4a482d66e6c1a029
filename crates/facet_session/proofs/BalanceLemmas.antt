-- Each leaf that a run makes is held or dropped, and the last step drops what is held.
use Rattle.std.proofs.Common.{◌≡◌, ℕ, ◌+◌, List, [], ◌∷◌, length, take, zero, suc, Bool, refl, arith, count_by}
use Rattle.std.specs.List.{flat_map}
use Rattle.facet_base.proofs.Lists.{count_by_append}
use Rattle.facet_leaf.specs.LeafModel.{LeafModel}
use Rattle.facet_session.specs.Interpreter.{first_state, next, last}
use Rattle.facet_session.specs.Script.{lines, turns_from, state_after, after, made, dropped, Balances}
use Rattle.facet_session.specs.State.{State, leaves_of_entries}
use Rattle.facet_session.specs.Turn.{Turn}
use Rattle.facet_session.proofs.InterpreterLaws.{next_laws, last_laws}
use Rattle.facet_session.proofs.TurnLaws.{TurnLaws}

-- what steps made and what was there before is what they dropped and what is there after
abbrev Keeps : {L : Type 0} → (L → Bool) → State L → List (Turn L) → Type 0
Keeps p state steps =
    count_by p (leaves_of_entries state.entries) + count_by p (flat_map (λ turn. turn.made) steps)
    ≡ count_by p (flat_map (λ turn. turn.dropped) steps) + count_by p (leaves_of_entries (state_after state steps).entries)

step_keeps : {L : Type 0} (p : L → Bool) (state : State L) (turn : Turn L) (steps : List (Turn L)) → TurnLaws state turn → Keeps p turn.state steps → Keeps p state (turn ∷ steps)
step_keeps p state turn steps laws rest =
    omega (arith, laws.balance p, rest, count_by_append p turn.made (flat_map (λ t. t.made) steps), count_by_append p turn.dropped (flat_map (λ t. t.dropped) steps))

run_keeps : {L : Type 0} (m : LeafModel L) (p : L → Bool) (state : State L) (rest : List (List ℕ)) (k : ℕ) → Keeps p state (take k (turns_from m state rest))
run_keeps m p state rest zero = omega arith
run_keeps m p state [] (suc zero) = step_keeps p state (last state) [] (last_laws state) refl
run_keeps m p state [] (suc (suc k)) = step_keeps p state (last state) [] (last_laws state) refl
run_keeps m p state (line ∷ rest) (suc k) =
    let turn = next m state line in
    step_keeps p state turn (take k (turns_from m turn.state rest)) (next_laws m state line) (run_keeps m p turn.state rest k)

pub conserved : {L : Type 0} (m : LeafModel L) (script : List ℕ) (k : ℕ) → Balances m script k
unfolding after made dropped
conserved m script k p = omega (arith, run_keeps m p (first_state m) (lines script) k)

ends_empty : {L : Type 0} (m : LeafModel L) (state : State L) (rest : List (List ℕ)) → (state_after state (take (length rest + 1) (turns_from m state rest))).entries ≡ []
ends_empty m state [] = refl
ends_empty m state (line ∷ rest) =
    let more : suc (length rest) + 1 ≡ suc (length rest + 1) = omega arith in
    rw more (ends_empty m (next m state line).state rest)

pub nothing_left : {L : Type 0} (m : LeafModel L) (script : List ℕ) → (after m script (length (lines script) + 1)).entries ≡ []
unfolding after
nothing_left m script = ends_empty m (first_state m) (lines script)

-- A whole run of the interpreter over the bytes of a script.
use Rattle.std.specs.Prelude.{◌≡◌, ℕ, Bool, ◌+◌, List, [], ◌∷◌, ◌++◌, take, if◌then◌else◌, count_by}
use Rattle.std.specs.List.{flat_map, onto_first}
use Rattle.facet_leaf.specs.LeafModel.{LeafModel}
pub use Rattle.facet_words.specs.Words.{is_newline}
use Rattle.facet_session.specs.Interpreter.{State, Turn, first_state, next, last, leaves_of_entries, text_of}

-- the lines, cut at each newline; what follows the last newline is one where it isn't empty
abbrev pub lines : List ℕ → List (List ℕ)
lines [] = []
lines (b ∷ bytes) = if is_newline b then [] ∷ lines bytes else onto_first b (lines bytes)

-- a step for each line, and the last one
abbrev pub turns_from : {L : Type 0} → LeafModel L → State L → List (List ℕ) → List (Turn L)
turns_from m state [] = last state ∷ []
turns_from m state (line ∷ rest) = next m state line ∷ turns_from m (next m state line).state rest

-- the steps of a script
abbrev pub turns : {L : Type 0} → LeafModel L → List ℕ → List (Turn L)
turns m bytes = turns_from m (first_state m) (lines bytes)

-- the state that steps leave
abbrev pub state_after : {L : Type 0} → State L → List (Turn L) → State L
state_after state [] = state
state_after state (turn ∷ rest) = state_after turn.state rest

-- the text of an answer, and a newline
abbrev pub answer_line : {L : Type 0} → LeafModel L → Turn L → List ℕ
answer_line m turn = text_of m turn ++ 10 ∷ []

-- the state after the first k steps
unfoldable pub after : {L : Type 0} → LeafModel L → List ℕ → ℕ → State L
after m bytes k = state_after (first_state m) (take k (turns m bytes))

-- the first k answers, each with a newline
unfoldable pub answers : {L : Type 0} → LeafModel L → List ℕ → ℕ → List ℕ
answers m bytes k = flat_map (answer_line m) (take k (turns m bytes))

-- the leaves that the first k steps made
unfoldable pub made : {L : Type 0} → LeafModel L → List ℕ → ℕ → List L
made m bytes k = flat_map (λ turn. turn.made) (take k (turns m bytes))

-- the leaves that they dropped
unfoldable pub dropped : {L : Type 0} → LeafModel L → List ℕ → ℕ → List L
dropped m bytes k = flat_map (λ turn. turn.dropped) (take k (turns m bytes))

-- the leaves of the values that they left
abbrev pub held : {L : Type 0} → LeafModel L → List ℕ → ℕ → List L
held m bytes k = leaves_of_entries (after m bytes k).entries

-- of the leaves that pass a test as many were made as are held or were dropped, whatever the test
abbrev pub Balances : {L : Type 0} → LeafModel L → List ℕ → ℕ → Type 0
Balances {L} m bytes k = (p : L → Bool) → count_by p (made m bytes k) ≡ count_by p (dropped m bytes k) + count_by p (held m bytes k)

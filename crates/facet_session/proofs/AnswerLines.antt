-- Where no debug text has a newline, each answer is one line, and the answers are cut at the newlines behind them.
use Rattle.std.proofs.Common.{◌≡◌, ℕ, List, [], ◌∷◌, ◌++◌, take, zero, suc, map, false, codes, nat_eq, refl, ap, ◌∙◌, arith, append_assoc}
use Rattle.std.specs.List.{flat_map, onto_first}
use Rattle.std.proofs.lemmas.Bool.{cond-false, false_from_ne_true}
use Rattle.std.proofs.lemmas.Bool.Decides.{nat_tests}
use Rattle.std.proofs.lemmas.List.Elements.{All-nil, All-append, All-head, All-tail}
use Rattle.facet_leaf.specs.LeafModel.{LeafModel}
use Rattle.facet_leaf.specs.OneLine.{IsOneLine, HasOneLineDebug}
use Rattle.facet_session.specs.Interpreter.{next, last}
use Rattle.facet_session.specs.Script.{lines, turns, turns_from, answer_line, answers}
use Rattle.facet_session.specs.State.{State, first_state}
use Rattle.facet_session.specs.Turn.{Turn, listed, more_listed, text_of}
use Rattle.facet_session.proofs.InterpreterLaws.{next_laws, last_laws}
use Rattle.facet_session.proofs.TurnLaws.{TurnLaws, one_line}

-- no newline
abbrev IsOther : ℕ → Type 0
IsOther b = b ≡ 10 → ⊥

-- a text, a newline, and more
cut_one : (bytes rest : List ℕ) → IsOneLine bytes → lines (bytes ++ 10 ∷ rest) ≡ bytes ∷ lines rest
cut_one [] rest whole = refl
cut_one (b ∷ bytes) rest whole =
    let other : nat_eq b 10 ≡ false = false_from_ne_true (nat_eq b 10) (λ e. All-head IsOther b bytes whole (grind (arith, nat_tests))) in
    cond-false (nat_eq b 10) _ _ other ∙ ap (onto_first b) (cut_one bytes rest (All-tail IsOther b bytes whole))

module _ {L : Type 0} (m : LeafModel L) where
  cut_turn : (turn : Turn L) (steps : List (Turn L)) → IsOneLine (text_of m turn) → lines (flat_map (answer_line m) steps) ≡ map (text_of m) steps
      → lines (flat_map (answer_line m) (turn ∷ steps)) ≡ map (text_of m) (turn ∷ steps)
  cut_turn turn steps whole rest =
      ap lines (append_assoc (text_of m turn) (10 ∷ []) (flat_map (answer_line m) steps))
      ∙ cut_one (text_of m turn) (flat_map (answer_line m) steps) whole
      ∙ ap (λ ls. text_of m turn ∷ ls) rest

  module _ (debug : HasOneLineDebug m) where
    more_whole : (xs : List L) → IsOneLine (more_listed m xs)
    more_whole [] = one_line (codes "]") refl
    more_whole (x ∷ xs) = All-append IsOther (codes ", " ++ m.debug x) (more_listed m xs) (All-append IsOther (codes ", ") (m.debug x) (one_line (codes ", ") refl) (debug x)) (more_whole xs)

    listed_whole : (label : List ℕ) (xs : List L) → IsOneLine label → IsOneLine (listed m label xs)
    listed_whole label [] whole = All-nil IsOther
    listed_whole label (x ∷ xs) whole = All-append IsOther (label ++ m.debug x) (more_listed m xs) (All-append IsOther label (m.debug x) whole (debug x)) (more_whole xs)

    text_whole : (state : State L) (turn : Turn L) → TurnLaws state turn → IsOneLine (text_of m turn)
    text_whole state turn laws =
        let made = listed_whole (codes " made [") turn.made (one_line (codes " made [") refl) in
        let dropped = listed_whole (codes " dropped [") turn.dropped (one_line (codes " dropped [") refl) in
        All-append IsOther (turn.words ++ listed m (codes " made [") turn.made) (listed m (codes " dropped [") turn.dropped)
        (All-append IsOther turn.words (listed m (codes " made [") turn.made) laws.words made)
        dropped

    pub next_whole : (state : State L) (line : List ℕ) → IsOneLine (text_of m (next m state line))
    next_whole state line = text_whole state (next m state line) (next_laws m state line)

    pub last_whole : (state : State L) → IsOneLine (text_of m (last state))
    last_whole state = text_whole state (last state) (last_laws state)

    cut_run : (state : State L) (rest : List (List ℕ)) (k : ℕ) → lines (flat_map (answer_line m) (take k (turns_from m state rest))) ≡ map (text_of m) (take k (turns_from m state rest))
    cut_run state rest zero = refl
    cut_run state [] (suc zero) = cut_turn (last state) [] (last_whole state) refl
    cut_run state [] (suc (suc k)) = cut_turn (last state) [] (last_whole state) refl
    cut_run state (line ∷ rest) (suc k) =
        let turn = next m state line in
        cut_turn turn (take k (turns_from m turn.state rest)) (next_whole state line) (cut_run turn.state rest k)

    pub answers_cut : (script : List ℕ) (k : ℕ) → lines (answers m script k) ≡ map (text_of m) (take k (turns m script))
    unfolding answers
    answers_cut script k = cut_run (first_state m) (lines script) k

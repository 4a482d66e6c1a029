-- How a run goes on from line to line.
use Rattle.std.proofs.Common.{◌≡◌, ℕ, ◌+◌, ◌<◌, List, [], ◌∷◌, ◌++◌, length, Option, sym, subst, ap, refl, arith}
use Rattle.std.proofs.lemmas.List.{length-drop}
use Rattle.std.proofs.KnownBytes.{Appends-nil, Appends-trans}
use Rattle.std.specs.Io.KnownBytes.{Appends}
use Rattle.std.specs.List.{before_first, after_first}
use Rattle.facet_leaf.specs.LeafModel.{LeafModel}
use Rattle.facet_session.specs.declared.session.Answer.{Answer}
use Rattle.facet_session.specs.declared.session.Session.{Session}
use Rattle.facet_session.specs.Interpreter.{State, Turn, first_state, next}
use Rattle.facet_session.specs.Script.{is_newline, lines, turns, turns_from, answer_line, after, answers}
use Rattle.facet_session.specs.Session.{CarriesOut, IsNew}
use Rattle.facet_script.specs.Progress.{HasAnswered}
use Rattle.facet_script.proofs.CutLines.{lines_parted}
use Rattle.facet_session.proofs.ShownSessions.{shows_new}
use Rattle.facet_base.proofs.Lists.{next_at}
use Rattle.facet_script.proofs.OneMoreTurn.{after_next, answers_next}

turns_length : {L : Type 0} (m : LeafModel L) (state : State L) (ls : List (List ℕ)) → length (turns_from m state ls) ≡ length ls + 1
turns_length m state [] = refl
turns_length m state (line ∷ rest) = omega (arith, turns_length m (next m state line).state rest)

-- where some turns are left, the answered ones and these are all
pub turns_left : {L : Type 0} (m : LeafModel L) (script : List ℕ) (k : ℕ) (rest : List (Turn L)) (before now : Option (List ℕ)) (s : Session L)
    → HasAnswered m script k rest before now s → 0 < length rest → k + length rest ≡ length (lines script) + 1
turns_left m script k rest before now s progress some =
    omega (arith, some, ap length progress.left, length-drop k (turns m script), turns_length m (first_state m) (lines script))

-- the same for the turns of the lines that are left
pub lines_left : {L : Type 0} (m : LeafModel L) (script : List ℕ) (k : ℕ) (ls : List (List ℕ)) (before now : Option (List ℕ)) (s : Session L)
    → HasAnswered m script k (turns_from m (after m script k) ls) before now s → k + length ls ≡ length (lines script)
lines_left m script k ls before now s progress =
    let steps = turns_length m (after m script k) ls in
    omega (arith, steps, turns_left m script k _ before now s progress (omega (arith, steps)))

-- before the first line
pub nothing_answered : {L : Type 0} (m : LeafModel L) (script : List ℕ) (known : Option (List ℕ)) (s : Session L) → IsNew m s → HasAnswered m script 0 (turns_from m (after m script 0) (lines script)) known known s
unfolding after answers
nothing_answered m script known s new = record { left = refl; cells = shows_new m s new; written = Appends-nil known }

-- one more answer was written whole
pub one_more_answered : {L : Type 0} (m : LeafModel L) (script : List ℕ) (k : ℕ) (turn : Turn L) (rest : List (Turn L)) (before mid now : Option (List ℕ)) (s t : Session L) (answer : Answer)
    → HasAnswered m script k (turn ∷ rest) before mid s → CarriesOut m t answer turn → Appends mid now (answer.text ++ 10 ∷ []) → HasAnswered m script (k + 1) rest before now t
one_more_answered m script k turn rest before mid now s t answer progress carried written =
    let whole : Appends mid now (answer_line m turn) = subst (λ text. Appends mid now (text ++ 10 ∷ [])) carried.text written in
    record {
      left = (next_at (turns m script) k turn rest progress.left).1;
      cells = rw (after_next m script k turn rest progress.left) carried.state;
      written = rw (answers_next m script k turn rest progress.left) (Appends-trans before mid now (answers m script k) (answer_line m turn) progress.written whole);
    }

-- one more line was answered
pub line_answered : {L : Type 0} (m : LeafModel L) (script : List ℕ) (k : ℕ) (line : List ℕ) (rest : List (List ℕ)) (before mid now : Option (List ℕ)) (s t : Session L) (answer : Answer)
    → HasAnswered m script k (turns_from m (after m script k) (line ∷ rest)) before mid s
    → CarriesOut m t answer (next m (after m script k) line) → Appends mid now (answer.text ++ 10 ∷ [])
    → HasAnswered m script (k + 1) (turns_from m (after m script (k + 1)) rest) before now t
line_answered m script k line rest before mid now s t answer progress carried written =
    let turn = next m (after m script k) line in
    let steps = turns_from m turn.state rest in
    let answered = one_more_answered m script k turn steps before mid now s t answer progress carried written in
    subst (λ state. HasAnswered m script (k + 1) (turns_from m state rest) before now t) (sym (after_next m script k turn steps progress.left)) answered

-- the next line is cut off the text that is left
pub line_cut_off : {L : Type 0} (m : LeafModel L) (script : List ℕ) (k : ℕ) (text line rest : List ℕ) (before now : Option (List ℕ)) (s : Session L)
    → 0 < length text → line ≡ before_first is_newline text → rest ≡ after_first is_newline text
    → HasAnswered m script k (turns_from m (after m script k) (lines text)) before now s → HasAnswered m script k (turns_from m (after m script k) (line ∷ lines rest)) before now s
line_cut_off m script k text line rest before now s some first others progress =
    subst (λ ls. HasAnswered m script k (turns_from m (after m script k) ls) before now s) (lines_parted text line rest some first others) progress

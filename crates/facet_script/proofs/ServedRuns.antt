-- What a run has done at each of its exits.
use Rattle.std.proofs.Common.{◌≡◌, ℕ, ◌+◌, ◌-◌, List, [], ◌∷◌, ◌++◌, length, Option, Some, None, inl, inr, sym, subst, ◌∙◌, ap, refl, arith, append_assoc}
use Rattle.std.proofs.lemmas.List.{append-nil, length-append}
use Rattle.std.proofs.KnownBytes.{Appends-nil, Appends-trans, Appends-kept}
use Rattle.std.specs.Io.KnownBytes.{Appends}
use Rattle.facet_session.specs.declared.session.Answer.{Answer}
use Rattle.facet_session.specs.declared.session.Session.{Session}
use Rattle.facet_leaf.specs.LeafModel.{LeafModel}
use Rattle.facet_session.specs.Interpreter.{Turn, first_state}
use Rattle.facet_session.specs.Script.{answer_line, after, answers}
use Rattle.facet_session.specs.Session.{CarriesOut, IsNew, IsUnchanged}
use Rattle.facet_session.proofs.BalanceLemmas.{conserved}
use Rattle.facet_script.specs.declared.report.Status.{Status}
use Rattle.facet_script.specs.declared.report.Status.TheVariants.{Ok, NoMemory}
use Rattle.facet_script.specs.declared.output.OutputError.{OutputError}
use Rattle.facet_script.specs.declared.output.OutputError.TheVariants.{Failed, Memory}
use Rattle.facet_script.specs.Output.{AppendsSome, AppendsPart, status_of}
use Rattle.facet_script.specs.Run.{FitsKnown, Serves, Writes, Logs, last_dropped}
use Rattle.facet_script.specs.Progress.{HasAnswered}
use Rattle.facet_script.proofs.AnsweredLines.{turns_left, one_more_answered}
use Rattle.facet_session.proofs.ShownSessions.{shows_same, shows_new}
use Rattle.facet_script.proofs.OneMoreTurn.{after_next, answers_next, answers_before, dropped_last, dropped_none}

-- an answer was not written whole
part_writes : {L : Type 0} (m : LeafModel L) (script : List ℕ) (k : ℕ) (turn : Turn L) (rest : List (Turn L)) (before mid now : Option (List ℕ)) (s : Session L) (error : OutputError)
    → HasAnswered m script k (turn ∷ rest) before mid s → AppendsPart error mid now (answer_line m turn) → AppendsSome before now (Writes m (status_of error) script (k + 1))
part_writes m script k turn rest before mid now s Failed progress (bytes, written, ((behind, whole), short)) =
    let back : k + 1 - 1 ≡ k = omega arith in
    let last = answers_next m script k turn rest progress.left in (
      answers m script k ++ bytes,
      Appends-trans before mid now (answers m script k) bytes progress.written written,
      (
        omega arith,
        rw back (bytes, refl),
        (
          (behind, last ∙ ap (λ ys. answers m script k ++ ys) whole ∙ sym (append_assoc (answers m script k) bytes behind)),
          omega (arith, short, length-append (answers m script k) bytes, ap length last, length-append (answers m script k) (answer_line m turn)),
        ),
      ),
    )
part_writes m script k turn rest before mid now s Memory progress kept =
    let back : k + 1 - 1 ≡ k = omega arith in (
      answers m script k,
      Appends-kept before mid now (answers m script k) progress.written kept,
      (rw back ([], sym (append-nil (answers m script k))), (answer_line m turn, answers_next m script k turn rest progress.left)),
    )

-- the log then still has what the last step dropped
part_logs : {L : Type 0} (m : LeafModel L) (script : List ℕ) (k : ℕ) (log : List L) (error : OutputError) → log ≡ last_dropped m script k → Logs m (status_of error) script k log
part_logs m script k log Failed same = same
part_logs m script k log Memory same = inl same

-- a step was carried out, and its answer not written whole
pub cut_short : {L : Type 0} (m : LeafModel L) (script : List ℕ) (k : ℕ) (turn : Turn L) (rest : List (Turn L)) (before mid now : Option (List ℕ)) (s t : Session L) (answer : Answer) (error : OutputError)
    → HasAnswered m script k (turn ∷ rest) before mid s → CarriesOut m t answer turn → AppendsPart error mid now (answer.text ++ 10 ∷ [])
    → Serves m script (record { status = status_of error; lines = k + 1 }) before now t
cut_short m script k turn rest before mid now s t answer error progress carried part =
    let of_turn : AppendsPart error mid now (answer_line m turn) = subst (λ text. AppendsPart error mid now (text ++ 10 ∷ [])) carried.text part in
    record {
      within = omega (arith, turns_left m script k (turn ∷ rest) before mid s progress (omega arith));
      writes = part_writes m script k turn rest before mid now s error progress of_turn;
      cells = rw (after_next m script k turn rest progress.left) carried.state;
      log = part_logs m script (k + 1) t.log.leaves error (carried.log ∙ sym (dropped_last m script k turn rest progress.left));
      balance = conserved m script (k + 1);
    }

-- memory ran out in a step
pub out_of_memory : {L : Type 0} (m : LeafModel L) (script : List ℕ) (k : ℕ) (turn : Turn L) (rest : List (Turn L)) (before now : Option (List ℕ)) (s t : Session L)
    → HasAnswered m script k (turn ∷ rest) before now s → IsUnchanged s t → t.log.leaves ≡ [] → Serves m script (record { status = NoMemory; lines = k }) before now t
out_of_memory m script k turn rest before now s t progress same cleared = record {
  within = omega (arith, turns_left m script k (turn ∷ rest) before now s progress (omega arith));
  writes = (answers m script k, progress.written, (answers_before m script k, ([], sym (append-nil (answers m script k)))));
  cells = shows_same m s t (after m script k) same progress.cells;
  log = inr cleared;
  balance = conserved m script k;
}

-- all lines were answered, and the end
pub ended : {L : Type 0} (m : LeafModel L) (script : List ℕ) (k : ℕ) (turn : Turn L) (before mid now : Option (List ℕ)) (s t : Session L) (answer : Answer)
    → HasAnswered m script k (turn ∷ []) before mid s → CarriesOut m t answer turn → Appends mid now (answer.text ++ 10 ∷ [])
    → Serves m script (record { status = Ok; lines = k + 1 }) before now t
ended m script k turn before mid now s t answer progress carried written =
    let all = turns_left m script k (turn ∷ []) before mid s progress (omega arith) in
    let answered = one_more_answered m script k turn [] before mid now s t answer progress carried written in
    record {
      within = omega (arith, all);
      writes = (answers m script (k + 1), answered.written, (all, refl));
      cells = answered.cells;
      log = carried.log ∙ sym (dropped_last m script k turn [] progress.left);
      balance = conserved m script (k + 1);
    }

script_of : (known : Option (List ℕ)) → (script : List ℕ) × FitsKnown known script
script_of None = ([], tt)
script_of (Some bytes) = (bytes, refl)

no_answers : {L : Type 0} (m : LeafModel L) (script : List ℕ) → answers m script 0 ≡ []
unfolding answers
no_answers m script = refl

no_turns : {L : Type 0} (m : LeafModel L) (script : List ℕ) → after m script 0 ≡ first_state m
unfolding after
no_turns m script = refl

-- a run that did nothing, where its status allows that
pub idle : {L : Type 0} (m : LeafModel L) (known written : Option (List ℕ)) (s : Session L) (status : Status)
    → ((script : List ℕ) → Writes m status script 0 []) → ((script : List ℕ) → [] ≡ last_dropped m script 0 → Logs m status script 0 []) → IsNew m s
    → (script : List ℕ) × FitsKnown known script × Serves m script (record { status = status; lines = 0 }) written written s
idle m known written s status writes logs new =
    let (script, fits) = script_of known in (
      script,
      fits,
      record {
        within = omega arith;
        writes = ([], Appends-nil written, writes script);
        cells = rw (no_turns m script) (shows_new m s new);
        log = rw new.log (logs script (sym (dropped_none m script)));
        balance = conserved m script 0;
      },
    )

-- a run that memory ran out in before its first line
pub out_of_memory_first : {L : Type 0} (m : LeafModel L) (script : List ℕ) → Writes m NoMemory script 0 []
out_of_memory_first m script = (([], rw (append-nil (answers m script 0)) (sym (no_answers m script))), ([], no_answers m script))

-- One more turn of a run: what it adds to the answers, the state that it leaves and the leaves that it dropped.
use Rattle.std.proofs.Common.{◌≡◌, ℕ, ◌+◌, ◌-◌, List, [], ◌∷◌, ◌++◌, take, drop, sym, ◌∙◌, ap, refl, arith}
use Rattle.std.specs.List.{flat_map}
use Rattle.std.proofs.lemmas.List.{append-nil, take-append-drop, take-take, drop-take}
use Rattle.std.proofs.lemmas.List.Concat.{flat_map-append}
use Rattle.facet_leaf.specs.LeafModel.{LeafModel}
use Rattle.facet_session.specs.Interpreter.{State, Turn, first_state}
use Rattle.facet_session.specs.Script.{turns, state_after, answer_line, after, answers}
use Rattle.facet_base.proofs.Lists.{next_at}
use Rattle.facet_base.specs.Write.{IsPrefix}
use Rattle.facet_script.specs.Run.{last_dropped}

state_after_more : {L : Type 0} (state : State L) (steps : List (Turn L)) (turn : Turn L) → state_after state (steps ++ turn ∷ []) ≡ turn.state
state_after_more state [] turn = refl
state_after_more state (step ∷ steps) turn = state_after_more step.state steps turn

pub after_next : {L : Type 0} (m : LeafModel L) (script : List ℕ) (k : ℕ) (turn : Turn L) (rest : List (Turn L)) → drop k (turns m script) ≡ turn ∷ rest → after m script (k + 1) ≡ turn.state
unfolding after
after_next m script k turn rest e =
    ap (state_after (first_state m)) (next_at (turns m script) k turn rest e).0 ∙ state_after_more (first_state m) (take k (turns m script)) turn

pub answers_next : {L : Type 0} (m : LeafModel L) (script : List ℕ) (k : ℕ) (turn : Turn L) (rest : List (Turn L)) → drop k (turns m script) ≡ turn ∷ rest → answers m script (k + 1) ≡ answers m script k ++ answer_line m turn
unfolding answers
answers_next m script k turn rest e =
    ap (flat_map (answer_line m)) (next_at (turns m script) k turn rest e).0
    ∙ flat_map-append (answer_line m) (take k (turns m script)) (turn ∷ [])
    ∙ ap (λ ys. flat_map (answer_line m) (take k (turns m script)) ++ ys) (append-nil (answer_line m turn))

pub dropped_last : {L : Type 0} (m : LeafModel L) (script : List ℕ) (k : ℕ) (turn : Turn L) (rest : List (Turn L)) → drop k (turns m script) ≡ turn ∷ rest → last_dropped m script (k + 1) ≡ turn.dropped
unfolding last_dropped
dropped_last m script k turn rest e =
    let back : k + 1 - 1 ≡ k = omega arith in
    let one = drop-take k 1 (turns m script) ∙ ap (take 1) e in
    rw back (ap (flat_map (λ t. t.dropped)) one ∙ append-nil turn.dropped)

pub dropped_none : {L : Type 0} (m : LeafModel L) (script : List ℕ) → last_dropped m script 0 ≡ []
unfolding last_dropped
dropped_none m script = refl

-- the answers begin with those before the last
pub answers_before : {L : Type 0} (m : LeafModel L) (script : List ℕ) (k : ℕ) → IsPrefix (answers m script (k - 1)) (answers m script k)
unfolding answers
answers_before m script k =
    let steps = turns m script in (
      flat_map (answer_line m) (drop (k - 1) (take k steps)),
      ap (flat_map (answer_line m)) (sym (take-append-drop (k - 1) (take k steps)))
          ∙ flat_map-append (answer_line m) (take (k - 1) (take k steps)) (drop (k - 1) (take k steps))
          ∙ ap (λ front. flat_map (answer_line m) front ++ flat_map (answer_line m) (drop (k - 1) (take k steps))) (take-take (k - 1) k steps (omega arith)),
    )

-- What a line does to a state, and the text of its answer.
use Rattle.std.specs.Prelude.{ℕ, List, [], ◌∷◌, ◌++◌, Option, None, Some, codes}
use Rattle.facet_leaf.specs.LeafModel.{LeafModel}
use Rattle.facet_session.specs.Refusal.{words_of}
use Rattle.facet_session.specs.State.{State}
use Rattle.facet_session.specs.declared.refusal.Refusal.{Refusal}

-- the state after a line, the words of the answer, the leaves made and those dropped
pub record Turn (L : Type 0) : Type 0 where
  pub state : State L
  pub words : List ℕ
  pub made : List L
  pub dropped : List L

-- a refusal changes nothing
abbrev pub refused : {L : Type 0} → State L → Refusal → Turn L
refused state refusal = record { state = state; words = words_of refusal; made = []; dropped = [] }

-- a refusal, or else a turn
abbrev pub refused_or : {L : Type 0} → State L → Option Refusal → Turn L → Turn L
refused_or state (Some refusal) turn = refused state refusal
refused_or state None turn = turn

-- the leaves behind the first, and the end of the list
abbrev pub more_listed : {L : Type 0} → LeafModel L → List L → List ℕ
more_listed m [] = codes "]"
more_listed m (x ∷ xs) = codes ", " ++ m.debug x ++ more_listed m xs

-- a label and the debug texts of the leaves, where there are some
abbrev pub listed : {L : Type 0} → LeafModel L → List ℕ → List L → List ℕ
listed m label [] = []
listed m label (x ∷ xs) = label ++ m.debug x ++ more_listed m xs

-- the text of an answer: the words, the leaves made, and those dropped
abbrev pub text_of : {L : Type 0} → LeafModel L → Turn L → List ℕ
text_of m turn = turn.words ++ listed m (codes " made [") turn.made ++ listed m (codes " dropped [") turn.dropped

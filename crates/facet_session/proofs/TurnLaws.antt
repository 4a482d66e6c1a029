-- What holds of the turn of every command, whatever the state.
use Rattle.std.proofs.Common.{◌≡◌, ℕ, ◌+◌, List, [], ◌∷◌, Bool, true, not, nat_eq, Option, Some, None, refl, arith, count_by}
use Rattle.std.specs.List.{list_all, AllByRecursion}
use Rattle.std.proofs.lemmas.Bool.{and_parts}
use Rattle.std.proofs.lemmas.Bool.Decides.{nat_tests}
use Rattle.std.proofs.lemmas.List.Elements.{All-from_recursion}
use Rattle.facet_leaf.specs.OneLine.{IsOneLine}
use Rattle.facet_session.specs.declared.refusal.Refusal.{Refusal}
use Rattle.facet_session.specs.declared.refusal.Refusal.TheVariants.{Syntax, NoSuchShape, Taken, WrongShape, BadText, Unsupported, MissingDeclId}
use Rattle.facet_session.specs.Refusal.{words_of}
use Rattle.facet_session.specs.State.{State, leaves_of_entries}
use Rattle.facet_session.specs.Turn.{Turn, refused, refused_or}

-- what was held and what the turn made is what it dropped and what is held after it; and the words are one line
pub record TurnLaws {L : Type 0} (state : State L) (turn : Turn L) : Type 0 where
  pub balance : (p : L → Bool) → count_by p (leaves_of_entries state.entries) + count_by p turn.made ≡ count_by p turn.dropped + count_by p (leaves_of_entries turn.state.entries)
  pub words : IsOneLine turn.words

no_newline : (bytes : List ℕ) → list_all (λ b. not (nat_eq b 10)) bytes ≡ true → AllByRecursion (λ b. b ≡ 10 → ⊥) bytes
no_newline [] all = tt
no_newline (b ∷ bytes) all =
    let parts = and_parts (not (nat_eq b 10)) (list_all (λ c. not (nat_eq c 10)) bytes) all in
    (grind (arith, nat_tests), no_newline bytes parts.1)

-- a text that a test finds no newline in is one line
pub one_line : (bytes : List ℕ) → list_all (λ b. not (nat_eq b 10)) bytes ≡ true → IsOneLine bytes
one_line bytes all = All-from_recursion _ _ (no_newline bytes all)

pub words_one_line : (refusal : Refusal) → IsOneLine (words_of refusal)
words_one_line Syntax = one_line (words_of Syntax) refl
words_one_line NoSuchShape = one_line (words_of NoSuchShape) refl
words_one_line Taken = one_line (words_of Taken) refl
words_one_line WrongShape = one_line (words_of WrongShape) refl
words_one_line BadText = one_line (words_of BadText) refl
words_one_line Unsupported = one_line (words_of Unsupported) refl
words_one_line MissingDeclId = one_line (words_of MissingDeclId) refl

pub refused_laws : {L : Type 0} (state : State L) (refusal : Refusal) → TurnLaws state (refused state refusal)
refused_laws state refusal = record { balance = λ p. omega arith; words = words_one_line refusal }

pub refused_or_laws : {L : Type 0} (state : State L) (found : Option Refusal) (turn : Turn L) → TurnLaws state turn → TurnLaws state (refused_or state found turn)
refused_or_laws state (Some refusal) turn laws = refused_laws state refusal
refused_or_laws state None turn laws = laws

-- Turns that every command may end in, and the line that a command was read from.
use Rattle.std.proofs.Common.{◌≡◌, ℕ, List, [], ◌++◌, Bool, true, false, cond, Option, Some, None, refl, sym, ap, ◌∙◌, subst}
use Rattle.std.proofs.lemmas.List.{append-nil}
use Rattle.facet_leaf.specs.LeafModel.{LeafModel}
use Rattle.facet_session.specs.declared.session.Session.{Session}
use Rattle.facet_session.specs.declared.session.Answer.{Answer}
use Rattle.facet_grammar.specs.declared.command.Command.{Command}
use Rattle.facet_session.specs.declared.refusal.Refusal.{Refusal}
use Rattle.facet_grammar.specs.Grammar.{command_of}
use Rattle.facet_session.specs.Interpreter.{turn_of, next}
use Rattle.facet_session.specs.Refusal.{words_of}
use Rattle.facet_session.specs.Session.{Shows, CarriesOut, IsUnchanged}
use Rattle.facet_session.specs.State.{State}
use Rattle.facet_session.specs.Turn.{refused}
use Rattle.facet_session.proofs.ShownSessions.{shows_same}

-- where no condition holds, the first doesn't, nor does one of the others
pub none_holds : (test : Bool) (refusal : Refusal) (rest : Option Refusal) → None ≡ cond test (Some refusal) rest → (test ≡ false) × (None ≡ rest)
none_holds true refusal rest none = absurd (cc)
none_holds false refusal rest none = (refl, none)

module _ {L : Type 0} (m : LeafModel L) where
  -- a session whose log is empty, and an answer of words alone, carry out a turn of these words without leaves
  pub words_carried : (now : Session L) (answer : Answer) (words : List ℕ) (state : State L) → now.log.leaves ≡ []
      → answer ≡ record { text = words; made = 0; dropped = 0 } → Shows m now state → CarriesOut m now answer (record { state = state; words = words; made = []; dropped = [] })
  words_carried now answer words state empty same shown = record {
    text = ap (λ a. a.text) same ∙ sym (append-nil words) ∙ sym (append-nil (words ++ []));
    made = ap (λ a. a.made) same;
    dropped = ap (λ a. a.dropped) same;
    state = shown;
    log = empty;
  }

  -- so it is of a refusal, where the session stays as it is
  pub refused_carried : (session : Session L) (answer : Answer) (refusal : Refusal) (state : State L) → session.log.leaves ≡ []
      → answer ≡ record { text = words_of refusal; made = 0; dropped = 0 } → Shows m session state → CarriesOut m session answer (refused state refusal)
  refused_carried session answer refusal state empty same shown = words_carried session answer (words_of refusal) state empty same shown

  -- a command that was read from a line is carried out as the line's step, whatever the log held
  pub next_carried : (before cleared now : Session L) (answer : Answer) (line : List ℕ) (command : Option Command) → IsUnchanged before cleared → command ≡ command_of line
      → ((state : State L) → Shows m cleared state → CarriesOut m now answer (turn_of m state command))
      → (state : State L) → Shows m before state → CarriesOut m now answer (next m state line)
  unfolding next
  next_carried before cleared now answer line command same read carried state shown =
      subst (λ found. CarriesOut m now answer (turn_of m state found)) read (carried state (shows_same m before cleared state same shown))

-- How far a run over a script has come between two lines.
use Rattle.std.specs.Prelude.{◌≡◌, ℕ, List, drop, Option}
use Rattle.std.specs.Io.KnownBytes.{Appends}
use Rattle.facet_leaf.specs.LeafModel.{LeafModel}
use Rattle.facet_session.specs.declared.session.Session.{Session}
use Rattle.facet_session.specs.Interpreter.{Turn}
use Rattle.facet_session.specs.Script.{turns, after, answers}
use Rattle.facet_session.specs.Session.{Shows}

-- the first k answers were written, and these turns are left
pub record HasAnswered {L : Type 0} (m : LeafModel L) (script : List ℕ) (k : ℕ) (rest : List (Turn L)) (before now : Option (List ℕ)) (session : Session L) : Type 0 where
  pub left : drop k (turns m script) ≡ rest
  pub cells : Shows m session (after m script k)
  pub written : Appends before now (answers m script k)

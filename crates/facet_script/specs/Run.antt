-- What a run over a script has done at its exit.
use Rattle.std.specs.Prelude.{◌≡◌, ◌⊎◌, ℕ, ◌+◌, ◌-◌, ◌^◌, ◌<◌, ◌≤◌, List, [], length, take, drop, Option, IfSome}
use Rattle.std.specs.List.{flat_map}
use Rattle.facet_base.specs.Write.{IsPrefix}
use Rattle.facet_leaf.specs.LeafModel.{LeafModel}
use Rattle.facet_session.specs.declared.session.Session.{Session}
use Rattle.facet_session.specs.Script.{lines, turns, after, answers, Balances}
use Rattle.facet_session.specs.Session.{Shows}
use Rattle.facet_script.specs.declared.report.Status.{Status}
use Rattle.facet_script.specs.declared.report.Status.TheVariants.{Ok, Usage, ReadFault, WriteFault, TooLong, NoMemory}
use Rattle.facet_script.specs.declared.report.Report.{Report}
use Rattle.facet_script.specs.Output.{IsProperPrefix, AppendsSome}

-- these bytes are the known ones, where some are known
abbrev pub FitsKnown : Option (List ℕ) → List ℕ → Type 0
FitsKnown known bytes = IfSome known (λ bs. bs ≡ bytes)

-- the bytes that were written, by the status and the number of answers whose commands were carried out
abbrev pub Writes : {L : Type 0} → LeafModel L → Status → List ℕ → ℕ → List ℕ → Type 0
Writes m Ok script k bytes = (k ≡ length (lines script) + 1) × (bytes ≡ answers m script k)
Writes m WriteFault script k bytes = (0 < k) × IsPrefix (answers m script (k - 1)) bytes × IsProperPrefix bytes (answers m script k)
Writes m NoMemory script k bytes = IsPrefix (answers m script (k - 1)) bytes × IsPrefix bytes (answers m script k)
Writes m Usage script k bytes = (k ≡ 0) × (bytes ≡ [])
Writes m ReadFault script k bytes = (k ≡ 0) × (bytes ≡ [])
Writes m TooLong script k bytes = (k ≡ 0) × (bytes ≡ [])

-- the leaves that the last of the first k steps dropped; none where k is 0
unfoldable pub last_dropped : {L : Type 0} → LeafModel L → List ℕ → ℕ → List L
last_dropped m script k = flat_map (λ turn. turn.dropped) (drop (k - 1) (take k (turns m script)))

-- the log has the leaves that the last step carried out dropped; a step that memory ran out in empties it
abbrev pub Logs : {L : Type 0} → LeafModel L → Status → List ℕ → ℕ → List L → Type 0
Logs m NoMemory script k log = (log ≡ last_dropped m script k) ⊎ (log ≡ [])
Logs m _ script k log = log ≡ last_dropped m script k

-- what a run with this report has done to a sink and to a new session
pub record Serves {L : Type 0} (m : LeafModel L) (script : List ℕ) (report : Report) (before now : Option (List ℕ)) (session : Session L) : Type 0 where
  pub within : report.lines ≤ length (lines script) + 1
  pub writes : AppendsSome before now (Writes m report.status script report.lines)
  pub cells : Shows m session (after m script report.lines)
  pub log : Logs m report.status script report.lines session.log.leaves
  pub balance : Balances m script report.lines

-- a count neither rose nor stands at its maximum
pub record Steady (before now : ℕ) : Type 0 where
  pub same : now ≡ before
  pub free : before < 2 ^ 64 - 1

-- the run came to its end, or memory ran out
abbrev pub IsServed : Status → Type 0
IsServed status = (status ≡ Ok) ⊎ (status ≡ NoMemory)

-- a write failed, or memory ran out
abbrev pub IsCutShort : Status → Type 0
IsCutShort status = (status ≡ WriteFault) ⊎ (status ≡ NoMemory)

-- What a log holds once leaves were dropped into it.
use Rattle.std.specs.Prelude.{◌≡◌, ◌+◌, ◌≤◌, List, ◌++◌, length}
use Rattle.facet_block.specs.DropLog.{LeafLog}

-- behind the leaves that the log had stand these, and the spare falls by their number at most
pub record IsLogged {L : Type 0} (old new : LeafLog L) (dropped : List L) : Type 0 where
  pub leaves : new.leaves ≡ old.leaves ++ dropped
  pub spare : old.spare ≤ new.spare + length dropped

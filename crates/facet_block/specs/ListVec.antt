-- A `ListVec` once the borrow of one of its items has ended.
use Rattle.std.specs.Prelude.{ℕ, List, slice_set, Option}
use Rattle.std.specs.Borrow.{LendsIf, MutBor, Fml, RattleType}
use Rattle.facet_block.specs.contracts.list_vec.ListVec.{the_row}

-- item `i` is borrowed where there is one, and afterwards the list has what was left there
abbrev pub LendsEntry : (T : RattleType) → MutBor (List T.Denot) → ℕ → Option (MutBor T.Denot) → Fml
LendsEntry T s i r = LendsIf (the_row T) T s r (slice_set s.now i) s.now

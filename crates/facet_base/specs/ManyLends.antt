-- What becomes of a list when the borrow of one of its items ends.
use Rattle.std.specs.Prelude.{ℕ, slice_set, Option}
use Rattle.std.specs.Borrow.{LendsIf, MutBor, Fml, RattleType}
use Rattle.facet_base.specs.Many.{ManyValue}
use Rattle.facet_base.specs.contracts.many.Many.{the_row}

-- item `i` is borrowed where there is one; when the borrow ends, the list has there what was left, and else what it had
abbrev pub LendsItem : (T : RattleType) → MutBor (ManyValue T.Denot) → ℕ → Option (MutBor T.Denot) → Fml
LendsItem T s i r = LendsIf (the_row T) T s r (λ w. record (s.now) { items = slice_set s.now.items i w }) s.now

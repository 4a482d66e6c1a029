-- A vector in two parts once the borrow of one of its items has ended.
use Rattle.std.specs.Prelude.{ℕ, List, slice_set}
use Rattle.std.specs.Borrow.{Lends, MutBor, Fml, RattleType}
use Rattle.facet_block.specs.contracts.split.Split.{the_row}

module _ (T : RattleType) where
  -- item `i` of the front is borrowed, and afterwards the front has what was left there
  abbrev pub LendsFront : MutBor (List T.Denot × List T.Denot) → ℕ → MutBor T.Denot → Fml
  LendsFront s i r = Lends (the_row T) T s r (λ w. (slice_set s.now.0 i w, s.now.1))

  -- item `j` of the back is borrowed, and afterwards the back has what was left there
  abbrev pub LendsBack : MutBor (List T.Denot × List T.Denot) → ℕ → MutBor T.Denot → Fml
  LendsBack s j r = Lends (the_row T) T s r (λ w. (s.now.0, slice_set s.now.1 j w))

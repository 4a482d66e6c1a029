-- What contracts see of standard input.
use Rattle.std.specs.Prelude.{ℕ}

-- how many bytes were taken, and how many reads failed
pub record Tally : Type 0 where
  pub taken : ℕ
  pub faults : ℕ

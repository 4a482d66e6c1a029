-- What contracts see of a `DropLog`.
use Rattle.std.specs.Prelude.{ℕ, List, refl}
use Rattle.std.specs.Coded.{Coded, code_by}
use Rattle.facet_base.specs.Many.{ManyValue, many_code}

-- the leaves in the order in which they were dropped, and how many more it takes without allocating memory
pub record LeafLog (L : Type 0) : Type 0 where
  pub leaves : List L
  pub spare : ℕ

-- the log whose leaves are the items of this list
abbrev pub log_of : {L : Type 0} → ManyValue L → LeafLog L
log_of many = record { leaves = many.items; spare = many.spare }

-- it is stored as that list
abbrev pub log_code : {L : Type 0} → Coded L → Coded (LeafLog L)
log_code {L} code = code_by (ManyValue L) (many_code code) (λ log. record { items = log.leaves; spare = log.spare }) log_of (λ _. refl)

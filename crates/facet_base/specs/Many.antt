-- What contracts see of a `Many`.
use Rattle.std.specs.Prelude.{ℕ, List, refl}
use Rattle.std.specs.Coded.{Coded, code_by, coded×, coded_ℕ, coded_list}

-- the items, and how many more it takes without allocating
pub record ManyValue (T : Type 0) : Type 0 where
  pub items : List T
  pub spare : ℕ

-- it is stored as the pair of its fields
abbrev pub many_code : {T : Type 0} → Coded T → Coded (ManyValue T)
many_code {T} code =
    code_by (List T × ℕ) (coded× (coded_list code) coded_ℕ) (λ many. (many.items, many.spare)) (λ p. record { items = p.0; spare = p.1 }) (λ _. refl)

-- the list of these items, with no room for more
abbrev pub of_items : {T : Type 0} → List T → ManyValue T
of_items items = record { items = items; spare = 0 }

-- a list as it is compared by its items alone
abbrev pub without_spare : {T : Type 0} → ManyValue T → ManyValue T
without_spare many = of_items many.items

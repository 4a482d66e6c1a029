-- The hash of a text in parts.
use Rattle.std.proofs.Common.{◌≡◌, ℕ, List, ◌++◌, sym}
use Rattle.std.proofs.lemmas.List.Sums.{fold-append}
use Rattle.facet_base.specs.Fnv.{fnv, fnv_byte}

-- the hash of two parts is that of the whole
pub fnv_fnv : (hash : ℕ) (xs ys : List ℕ) → fnv (fnv hash xs) ys ≡ fnv hash (xs ++ ys)
unfolding fnv
fnv_fnv hash xs ys = sym (fold-append fnv_byte hash xs ys)

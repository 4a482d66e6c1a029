-- Sets of bits as numbers.
use Rattle.std.specs.Prelude.{ℕ, Bool, ◌==◌, ◌↔◌, ◌⊎◌, IsBitSet, List, [], ◌∷◌, ◌++◌, codes, map, filter, flat_map}
use Rattle.std.specs.Int.RustNames.{bit_and}
use Rattle.bitflags.specs.Sets.{Row}

-- whether each bit of the flag is one of the set
abbrev pub contains_flag : ℕ → ℕ → Bool
contains_flag set flag = bit_and set flag == flag

-- each bit of the part is one of the set
abbrev pub IsPart : ℕ → ℕ → Type 0
IsPart part set = (i : ℕ) → IsBitSet part i → IsBitSet set i

-- the bits of the union are those that one of the two has, or both
abbrev pub IsUnion : ℕ → ℕ → ℕ → Type 0
IsUnion a b union = (i : ℕ) → IsBitSet union i ↔ (IsBitSet a i ⊎ IsBitSet b i)

-- the bits of the intersection are those that both have
abbrev pub IsIntersection : ℕ → ℕ → ℕ → Type 0
IsIntersection a b intersection = (i : ℕ) → IsBitSet intersection i ↔ (IsBitSet a i × IsBitSet b i)

-- the bits of the difference are those of the first that the second hasn't
abbrev pub IsDifference : ℕ → ℕ → ℕ → Type 0
IsDifference a b difference = (i : ℕ) → IsBitSet difference i ↔ (IsBitSet a i × ¬ IsBitSet b i)

-- the names of the flags of a table that the set contains, in order
abbrev pub contained_names : List Row → ℕ → List (List ℕ)
contained_names table set = map (λ row. row.0) (filter (λ row. contains_flag set row.1) table)

-- the names with ` | ` between them, and `(empty)` where there is none
abbrev pub joined : List (List ℕ) → List ℕ
joined [] = codes "(empty)"
joined (name ∷ names) = name ++ flat_map (λ next. codes " | " ++ next) names

-- what Debug prints of a set
abbrev pub debug_text : List Row → ℕ → List ℕ
debug_text table set = joined (contained_names table set)

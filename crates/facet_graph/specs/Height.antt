-- The height of a node: how many nodes stand one behind another along its edges, itself counted.
use Rattle.std.specs.Prelude.{ℕ, zero, suc, ◌<◌, ◌≤◌, ◌↔◌, All, List, slice_index_or}

-- along the edges from s no more than k nodes stand one behind another, s counted
unfoldable pub IsWithin : (ℕ → List ℕ) → ℕ → ℕ → Type 0
IsWithin edges zero s = ⊥
IsWithin edges (suc k) s = All (IsWithin edges k) (edges s)

-- the height of s is h: 1 where no edge leads from it, else 1 more than the greatest height to which an edge leads
abbrev pub HasHeight : (ℕ → List ℕ) → ℕ → ℕ → Type 0
HasHeight edges s h = (k : ℕ) → IsWithin edges k s ↔ (h ≤ k)

-- the height of s is above 100, or it has none since it leads to a cycle
abbrev pub IsTooHigh : (ℕ → List ℕ) → ℕ → Type 0
IsTooHigh edges s = ¬ IsWithin edges 100 s

-- the height of s is h, which is at most 100
abbrev pub IsLow : (ℕ → List ℕ) → ℕ → ℕ → Type 0
IsLow edges s h = (h ≤ 100) × HasHeight edges s h

-- an entry in a table of heights: the height of the node, or 0 where it is too high
abbrev pub IsHeightEntry : (ℕ → List ℕ) → ℕ → ℕ → Type 0
IsHeightEntry edges s zero = IsTooHigh edges s
IsHeightEntry edges s (suc h) = IsLow edges s (suc h)

-- the table has these entries for the first n nodes
abbrev pub AreHeights : (ℕ → List ℕ) → ℕ → List ℕ → Type 0
AreHeights edges n heights = (s : ℕ) → s < n → IsHeightEntry edges s (slice_index_or heights s 0)

-- the table has the heights of the first n nodes, and none of these is too high
abbrev pub AreLow : (ℕ → List ℕ) → ℕ → List ℕ → Type 0
AreLow edges n heights = (s : ℕ) → s < n → IsLow edges s (slice_index_or heights s 0)

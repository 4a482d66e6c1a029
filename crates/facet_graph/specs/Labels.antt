-- Labels of nodes, by which those that lead to a cycle and aren't on one are told.
use Rattle.std.specs.Prelude.{ℕ, ◌<◌, ◌≤◌, Contains, List, slice_index_or}

-- no label behind the edges of s is below the bound
abbrev pub AreAtLeast : (ℕ → List ℕ) → List ℕ → ℕ → ℕ → Type 0
AreAtLeast edges labels s bound = (t : ℕ) → Contains (edges s) t → bound ≤ slice_index_or labels t 0

-- along the edges between the first n nodes no label is followed by a lower one
abbrev pub AreRising : (ℕ → List ℕ) → ℕ → List ℕ → Type 0
AreRising edges n labels = (s : ℕ) → s < n → AreAtLeast edges labels s (slice_index_or labels s 0)

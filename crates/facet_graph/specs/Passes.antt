-- A table of heights that is being filled in: entries that are still 0 say nothing.
use Rattle.std.specs.Prelude.{ℕ, ◌<◌, List, All, slice_index_or}
use Rattle.facet_graph.specs.Height.{IsLow, IsWithin}

-- each entry above 0 is the height of its node
abbrev pub AreKnown : (ℕ → List ℕ) → List ℕ → Type 0
AreKnown edges heights = (s : ℕ) → 0 < slice_index_or heights s 0 → IsLow edges s (slice_index_or heights s 0)

-- of the first n nodes, those of a height up to k have their entry
abbrev pub AreFilled : (ℕ → List ℕ) → ℕ → ℕ → List ℕ → Type 0
AreFilled edges n k heights = (s : ℕ) → s < n → IsWithin edges k s → 0 < slice_index_or heights s 0

-- the nodes have their entries, and none of these is 100
abbrev pub AreReady : List ℕ → List ℕ → Type 0
AreReady heights nodes = All (λ t. (0 < slice_index_or heights t 0) × (slice_index_or heights t 0 < 100)) nodes

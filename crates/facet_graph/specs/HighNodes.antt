-- The nodes from one on as a graph of their own, in which each is told by how far it stands behind the first.
use Rattle.std.specs.Prelude.{ℕ, zero, suc, ◌+◌, ◌-◌, List, [], map, nat_le, slice_index_or}
use Rattle.std.specs.List.{filter}

-- those of the nodes that don't stand before the first
abbrev pub behind : ℕ → List ℕ → List ℕ
behind first nodes = map (λ t. t - first) (filter (nat_le first) nodes)

-- the edges of a node with that entry in a table of heights: of one that isn't too high there are none
abbrev pub edges_by : ℕ → ℕ → List ℕ → List ℕ
edges_by first zero nodes = behind first nodes
edges_by first (suc h) nodes = []

-- the edges between the nodes from the first on, that lead from nodes that are too high
unfoldable pub high_edges : (ℕ → List ℕ) → ℕ → List ℕ → ℕ → List ℕ
high_edges edges first heights s = edges_by first (slice_index_or heights (first + s) 0) (edges (first + s))

-- The cost of a node: its own, and the cost of what hangs on it, each edge by its weight.
use Rattle.std.specs.Prelude.{◌≡◌, ℕ, zero, suc, ◌+◌, ◌*◌, ◌<◌, List, map, min, slice_index_or, sum_by}
use Rattle.facet_graph.specs.Height.{IsWithin}
use Rattle.facet_graph.specs.declared.graph.WeightedEdge.{WeightedEdge}

-- the nodes to which edges lead, without the weights
abbrev pub unweighted : (ℕ → List WeightedEdge) → ℕ → List ℕ
unweighted edges s = map (λ edge. edge.node) (edges s)

-- the cost of s as far as it is k levels deep: its own, and for each edge the weight times the cost of the node behind
unfoldable pub cost : (ℕ → List WeightedEdge) → (ℕ → ℕ) → ℕ → ℕ → ℕ
cost edges own zero s = 0
cost edges own (suc k) s = own s + sum_by (λ edge. edge.weight * cost edges own k edge.node) (edges s)

-- costs above 65,536 are told as 65,537
abbrev pub capped : ℕ → ℕ
capped n = min n 65537

-- an entry in a table of costs: the cost of the node where its height is at most 100. It is free where that is higher
abbrev pub IsCostEntry : (ℕ → List WeightedEdge) → (ℕ → ℕ) → ℕ → ℕ → Type 0
IsCostEntry edges own s entry = IsWithin (unweighted edges) 100 s → entry ≡ capped (cost edges own 100 s)

-- the table has these entries for the first n nodes
abbrev pub AreCosts : (ℕ → List WeightedEdge) → (ℕ → ℕ) → ℕ → List ℕ → Type 0
AreCosts edges own n costs = (s : ℕ) → s < n → IsCostEntry edges own s (slice_index_or costs s 0)

-- the height of the node is at most 100, and it costs more than 65,536
abbrev pub IsTooCostly : (ℕ → List WeightedEdge) → (ℕ → ℕ) → ℕ → Type 0
IsTooCostly edges own s = IsWithin (unweighted edges) 100 s × (65536 < cost edges own 100 s)

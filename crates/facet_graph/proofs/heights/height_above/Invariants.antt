use Rattle.std.proofs.Common.{ℕ, ◌<◌, ◌≤◌, get_or}
use Rattle.facet_graph.proofs.heights.height_above.Given as goal

-- the greatest entry so far, and none of them is 0
abbrev pub invariant-loop-node : goal.invariant-loop-node
invariant-loop-node l = record {
  known : (i : ℕ) → i < l.node-index → 0 < get_or l.heights (get_or l.nodes i 0) 0;
  above : (i : ℕ) → i < l.node-index → get_or l.heights (get_or l.nodes i 0) 0 ≤ l.greatest;
  least : (k : ℕ) → ((i : ℕ) → i < l.node-index → get_or l.heights (get_or l.nodes i 0) 0 ≤ k) → l.greatest ≤ k;
}

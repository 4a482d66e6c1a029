use Rattle.std.proofs.Common.{ℕ, ◌<◌}
use Rattle.facet_graph.specs.Height.{IsTooHigh}
use Rattle.facet_graph.proofs.heights.first_too_high.Given as goal

abbrev pub invariant-loop-node : goal.invariant-loop-node
invariant-loop-node g l = (s : ℕ) → s < l.node → ¬ IsTooHigh (g.G.Graph.edges l.graph) s

use Rattle.std.proofs.Common.{ℕ, ◌<◌}
use Rattle.facet_graph.specs.Cost.{IsTooCostly}
use Rattle.facet_graph.proofs.costs.first_too_costly.Given as goal

abbrev pub invariant-loop-node : goal.invariant-loop-node
invariant-loop-node g l = (s : ℕ) → s < l.node → ¬ IsTooCostly (g.G.WeightedGraph.weighted l.graph) (g.G.WeightedGraph.own l.graph) s

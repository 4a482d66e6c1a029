use Rattle.std.proofs.Common.{ℕ, ◌<◌}
use Rattle.facet_graph.specs.Reach.{ReachesItself}
use Rattle.facet_graph.proofs.cycles.least_on_cycle.Given as goal

abbrev pub invariant-loop-node : goal.invariant-loop-node
invariant-loop-node g l = (s : ℕ) → s < l.node → ¬ ReachesItself (g.G.Graph.edges l.graph) s

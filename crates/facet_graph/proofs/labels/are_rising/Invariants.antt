use Rattle.std.proofs.Common.{ℕ, ◌<◌, get_or}
use Rattle.facet_graph.specs.Labels.{AreAtLeast}
use Rattle.facet_graph.proofs.labels.are_rising.Given as goal

abbrev pub invariant-loop-node : goal.invariant-loop-node
invariant-loop-node g l = (s : ℕ) → s < l.node → AreAtLeast (g.G.Graph.edges l.graph) l.labels s (get_or l.labels s 0)

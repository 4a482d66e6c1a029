use Rattle.std.proofs.Common.{◌≡◌, ◌++◌, take}
use Rattle.facet_graph.specs.HighNodes.{behind}
use Rattle.facet_graph.proofs.high_nodes.push_behind.Given as goal

abbrev pub invariant-loop-node : goal.invariant-loop-node
invariant-loop-node l = l.to.items ≡ l.fn.to.items ++ behind l.first (take l.node-index l.nodes)

use Rattle.std.proofs.Common.{◌≡◌, ◌==◌, ◌&&◌, ◌++◌, map, nat_lt, take}
use Rattle.std.specs.List.{filter}
use Rattle.facet_graph.specs.declared.tests.listed.Arrow.{Arrow}
use Rattle.facet_graph.proofs.tests.listed.ListedWeightedGraph.push_weighted_edges.Given as goal

abbrev pub invariant-loop-arrow : goal.invariant-loop-arrow
invariant-loop-arrow l = l.to.items ≡ l.fn.to.items ++ map (λ (arrow : Arrow). arrow.edge) (filter (λ arrow. (arrow.from == l.node) && nat_lt arrow.edge.node l.self.count) (take l.arrow-index l.arrow-items))

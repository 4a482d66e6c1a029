use Rattle.std.proofs.Common.{◌≡◌, ◌==◌, ◌&&◌, ◌++◌, map, nat_lt, take}
use Rattle.std.specs.List.{filter}
use Rattle.facet_graph.specs.Cost.{unweighted}
use Rattle.facet_graph.specs.declared.tests.listed.Arrow.{Arrow}
use Rattle.facet_graph.proofs.tests.listed.ListedGraph.push_edges.Given as goal

abbrev pub invariant-loop-arrow : goal.invariant-loop-arrow
invariant-loop-arrow l = l.to.items ≡ l.fn.to.items ++ unweighted (λ s. map (λ (arrow : Arrow). arrow.edge) (filter (λ arrow. (arrow.from == s) && nat_lt arrow.edge.node l.self.count) (take l.arrow-index l.arrow-items))) l.node

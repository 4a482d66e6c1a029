use Rattle.std.proofs.Common.{◌≡◌, ℕ, ◌<◌, ◌≤◌, get_or, take, vec_len}
use Rattle.facet_graph.specs.Cost.{AreCosts, IsCostEntry}
use Rattle.facet_graph.proofs.costs.fill_costs.Given as goal

abbrev pub invariant-loop-level : goal.invariant-loop-level
invariant-loop-level g l = record {
  len : vec_len l.costs ≡ g.G.WeightedGraph.count l.graph;
  begins : take (vec_len l.fn.costs) l.costs.items ≡ l.fn.costs.items;
  before : AreCosts (g.G.WeightedGraph.weighted l.graph) (g.G.WeightedGraph.own l.graph) l.first l.costs.items;
  below : (s : ℕ) → s < g.G.WeightedGraph.count l.graph → get_or l.heights s 0 ≤ l.level → IsCostEntry (g.G.WeightedGraph.weighted l.graph) (g.G.WeightedGraph.own l.graph) s (get_or l.costs.items s 0);
}

use Rattle.std.proofs.Common.{◌≡◌, ℕ, ◌<◌, ◌≤◌, ◌+◌, get_or, take, vec_len}
use Rattle.facet_graph.specs.Cost.{AreCosts, IsCostEntry}
use Rattle.facet_graph.proofs.costs.fill_level.Given as goal

abbrev pub invariant-loop-s : goal.invariant-loop-s
invariant-loop-s g l = record {
  len : vec_len l.costs ≡ g.G.WeightedGraph.count l.graph;
  begins : take l.first l.costs.items ≡ take l.first l.fn.costs.items;
  before : AreCosts (g.G.WeightedGraph.weighted l.graph) (g.G.WeightedGraph.own l.graph) l.first l.costs.items;
  below : (t : ℕ) → t < g.G.WeightedGraph.count l.graph → get_or l.heights t 0 ≤ l.level → IsCostEntry (g.G.WeightedGraph.weighted l.graph) (g.G.WeightedGraph.own l.graph) t (get_or l.costs.items t 0);
  level : (t : ℕ) → t < l.s → get_or l.heights t 0 ≡ l.level + 1 → IsCostEntry (g.G.WeightedGraph.weighted l.graph) (g.G.WeightedGraph.own l.graph) t (get_or l.costs.items t 0);
}

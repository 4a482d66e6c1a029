use Rattle.std.proofs.Common.{◌≡◌, ◌+◌, ◌<◌, All, Any, length, vec_len}
use Rattle.facet_graph.specs.Reach.{Reaches}
use Rattle.facet_graph.specs.Trail.{IsTrail}
use Rattle.facet_graph.proofs.Frontier.{IsFrontier}
use Rattle.facet_graph.proofs.Work.{unmarked_edges}
use Rattle.facet_graph.proofs.search.walk.Given as goal

abbrev pub invariant-loop-node : goal.invariant-loop-node
invariant-loop-node g l = record {
  len : vec_len l.marks ≡ g.G.Graph.count l.graph;
  within : All (λ s. s < g.G.Graph.count l.graph) l.left.items;
  frontier : IsFrontier (g.G.Graph.edges l.graph) (g.G.Search.bad l.graph) l.fn.starts.items l.fn.marks.items l.marks.items l.left.items;
  trail : IsTrail l.fn.marks.items l.marks.items l.trail.items;
  trail_reached : All (λ t. Any (λ s. Reaches (g.G.Graph.edges l.graph) s t) l.fn.starts.items) l.trail.items;
  trail_within : All (λ s. s < g.G.Graph.count l.graph) l.trail.items;
}

abbrev pub decreases-loop-node : goal.decreases-loop-node
decreases-loop-node g l = length l.left.items + unmarked_edges (g.G.Graph.edges l.graph) 0 l.marks.items

use Rattle.std.proofs.Common.{◌++◌, All, Any, ◌∙◌, ap, subst}
use Rattle.facet_graph.specs.Reach.{Reaches, edges_from}
use Rattle.facet_graph.proofs.Ways.{all_fewer, fewer_stay}
use Rattle.facet_graph.proofs.search.nodes_reached.Goals as goal

pub walk-answer-requires-clause-edges : goal.walk-answer-requires-clause-edges
walk-answer-requires-clause-edges g c = fewer_stay c.args.first (g.G.Graph.edges c.args.graph.now) (g.G.Graph.count c.args.graph.now) c.requires.edges

pub returns-in-Ok-clause-reached : goal.returns-in-Ok-clause-reached
returns-in-Ok-clause-reached g c =
    let edges = g.G.Graph.edges c.args.graph.now in
    let first = c.args.first in
    let nodes = c.walk-answer.new.trail.items in
    let given = c.in_ok-extend_from_slice.ensures.items ∙ ap (λ xs. xs ++ c.args.starts.now) c.new-left.ensures.items in
    all_fewer first edges c.args.starts.now nodes (subst (λ starts. All (λ t. Any (λ s. Reaches (edges_from first edges) s t) starts) nodes) given c.walk-answer.ensures.reached)

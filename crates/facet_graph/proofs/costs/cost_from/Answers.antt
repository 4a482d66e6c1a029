use Rattle.std.proofs.Common.{◌≡◌, ◌+◌, ◌*◌, ◌<◌, ◌++◌, All, List, get_or, length, sum_by, subst, sym, ◌∙◌, ap, arith}
use Rattle.facet_graph.specs.Cost.{capped, cost}
use Rattle.facet_graph.specs.declared.graph.WeightedEdge.{WeightedEdge}
use Rattle.facet_graph.proofs.Counting.{cost_step, edges_low}
use Rattle.facet_graph.proofs.costs.cost_from.Goals as goal

pub capped_sum-requires : goal.capped_sum-requires
capped_sum-requires g c =
    let weighted = g.G.WeightedGraph.weighted c.args.graph.now in
    let n = g.G.WeightedGraph.count c.args.graph.now in
    let edges : List WeightedEdge = weighted c.args.s in
    let pushed = c.deref.ensures.value ∙ c.in_ok-push_weighted_edges.ensures ∙ ap (λ xs. xs ++ edges) c.clear.ensures.items in
    let low = edges_low weighted (g.G.WeightedGraph.own c.args.graph.now) n c.requires.edges c.args.heights.now c.requires.heights c.args.s c.args.level c.requires.node c.requires.level in
    subst (All (λ e. e.node < length c.args.costs.now)) (sym pushed) (λ k d below. let at = low k d below in omega (arith, at.0, c.requires.len))

pub returns : goal.returns
returns g c =
    let weighted = g.G.WeightedGraph.weighted c.args.graph.now in
    let own = g.G.WeightedGraph.own c.args.graph.now in
    let n = g.G.WeightedGraph.count c.args.graph.now in
    let edges : List WeightedEdge = weighted c.args.s in
    let costs = c.args.costs.now in
    let pushed = c.deref.ensures.value ∙ c.in_ok-push_weighted_edges.ensures ∙ ap (λ xs. xs ++ edges) c.clear.ensures.items in
    let low = edges_low weighted own n c.requires.edges c.args.heights.now c.requires.heights c.args.s c.args.level c.requires.node c.requires.level in
    let right : All (λ e. get_or costs e.node 0 ≡ capped (cost weighted own 100 e.node)) edges = λ k d below. c.requires.below _ (low k d below).0 (low k d below).1 (low k d below).2 in
    let sum : c.capped_sum.result ≡ capped (own c.args.s + sum_by (λ e. e.weight * get_or costs e.node 0) edges) =
    c.capped_sum.ensures ∙ ap (λ o. capped (o + sum_by (λ e. e.weight * get_or costs e.node 0) c.deref.result.now)) c.own_cost.ensures ∙ ap (λ xs. capped (own c.args.s + sum_by (λ (e : WeightedEdge). e.weight * get_or costs e.node 0) xs)) pushed in
    λ within. sum ∙ cost_step weighted own 99 costs c.args.s within right

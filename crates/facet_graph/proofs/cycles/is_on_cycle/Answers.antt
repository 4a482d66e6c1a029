use Rattle.std.proofs.Common.{◌++◌, ◌<◌, All, get_or, subst, sym, ◌∙◌, ap, arith}
use Rattle.std.proofs.lemmas.List.Elements.{Contains-get_or}
use Rattle.facet_graph.proofs.WayBack.{rising_not_back}
use Rattle.facet_graph.proofs.cycles.is_on_cycle.Goals as goal

pub search_from-requires-clause-starts : goal.search_from-requires-clause-starts
search_from-requires-clause-starts g c =
    let pushed = c.in_ok-push_edges.ensures ∙ ap (λ xs. xs ++ g.G.Graph.edges c.args.graph.now c.args.node) c.clear.ensures.items in
    subst (All (λ t. t < g.G.Graph.count c.args.graph.now)) (sym pushed) (λ k d below. c.requires.edges c.args.node _ c.requires.node (Contains-get_or _ k d below))

pub returns-then-branch : goal.returns-then-branch
returns-then-branch g c =
    let n = g.G.Graph.count c.args.graph.now in
    let less : get_or c.args.labels.now c.args.node 0 < c.in_ok-least_behind.field-0 = omega arith in
    (λ never. cc, λ back. absurd (rising_not_back _ n c.args.labels.now c.requires.edges c.requires.rising c.args.node c.in_ok-least_behind.field-0 c.requires.node c.in_ok-least_behind.ensures less back))

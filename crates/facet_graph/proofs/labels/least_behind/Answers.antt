use Rattle.std.proofs.Common.{◌<◌, ◌++◌, All, get_or, length, subst, sym, ◌∙◌, ap}
use Rattle.std.proofs.lemmas.List.Elements.{Contains-get_or}
use Rattle.facet_graph.proofs.labels.least_behind.Goals as goal

pub least_label-requires : goal.least_label-requires
least_label-requires g c =
    let edges = g.G.Graph.edges c.args.graph.now c.args.node in
    let pushed = c.deref.ensures.value ∙ c.in_ok-push_edges.ensures ∙ ap (λ xs. xs ++ edges) c.clear.ensures.items in
    subst (All (λ t. t < length c.args.labels.now)) (sym pushed) (λ k d below. subst (λ n. get_or edges k d < n) (sym c.requires.len) (c.requires.edges c.args.node _ c.requires.node (Contains-get_or _ k d below)))

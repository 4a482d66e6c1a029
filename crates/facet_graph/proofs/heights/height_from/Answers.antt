use Rattle.std.proofs.Common.{◌<◌, ◌+◌, ◌≤◌, ◌↔◌, ◌++◌, ℕ, All, get_or, length, subst, sym, ◌∙◌, ap}
use Rattle.std.proofs.lemmas.List.Elements.{Contains-get_or}
use Rattle.facet_graph.specs.Passes.{AreReady}
use Rattle.facet_graph.proofs.Tables.{behind_ready, height_step}
use Rattle.facet_graph.proofs.heights.height_from.Goals as goal

pub height_above-requires : goal.height_above-requires
height_above-requires g c =
    let edges = g.G.Graph.edges c.args.graph.now in
    let pushed = c.deref.ensures.value ∙ c.in_ok-push_edges.ensures ∙ ap (λ xs. xs ++ edges c.args.s) c.clear.ensures.items in
    subst (All (λ t. t < length c.args.heights.now)) (sym pushed) (λ k d below. subst (λ n. get_or (edges c.args.s) k d < n) (sym c.requires.len) (c.requires.edges c.args.s _ c.requires.node (Contains-get_or _ k d below)))

pub returns-clause-known : goal.returns-clause-known
returns-clause-known g c =
    let edges = g.G.Graph.edges c.args.graph.now in
    let pushed = c.deref.ensures.value ∙ c.in_ok-push_edges.ensures ∙ ap (λ xs. xs ++ edges c.args.s) c.clear.ensures.items in
    λ some. (
      c.height_above.ensures.low,
      height_step edges c.args.heights.now c.requires.known c.args.s c.height_above.result some
          (subst (All (λ t. 0 < get_or c.args.heights.now t 0)) pushed (c.height_above.ensures.known some))
          (subst (λ nodes. (k : ℕ) → (c.height_above.result ≤ k + 1) ↔ All (λ t. get_or c.args.heights.now t 0 ≤ k) nodes) pushed (c.height_above.ensures.above some)),
    )

pub returns-clause-filled : goal.returns-clause-filled
returns-clause-filled g c =
    let edges = g.G.Graph.edges c.args.graph.now in
    let pushed = c.deref.ensures.value ∙ c.in_ok-push_edges.ensures ∙ ap (λ xs. xs ++ edges c.args.s) c.clear.ensures.items in
    λ k small filled within. c.height_above.ensures.ready (subst (AreReady c.args.heights.now) (sym pushed) (behind_ready edges c.args.heights.now c.requires.known (g.G.Graph.count c.args.graph.now) c.requires.edges k c.args.s small c.requires.node filled within))

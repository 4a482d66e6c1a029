use Rattle.std.proofs.Common.{All, Any, refl, sym, subst}
use Rattle.std.specs.Bool.{OnTrue}
use Rattle.facet_graph.specs.Reach.{Reaches, ReachesBad}
use Rattle.facet_graph.proofs.Ways.{bad_behind_some}
use Rattle.facet_graph.proofs.search.reaches_bad.Goals as goal

pub returns-then-branch-clause-found : goal.returns-then-branch-clause-found
returns-then-branch-clause-found g c =
    let edges = g.G.Graph.edges c.args.graph.now in
    let bad = g.G.Search.bad c.args.graph.now in
    let starts = c.args.starts.items in
    let nodes = c.deref-2.result.now in
    let reached = subst (All (λ t. Any (λ s. Reaches edges s t) starts)) (sym c.deref-2.ensures.value) (subst (λ xs. All (λ t. Any (λ s. Reaches edges s t) xs) c.in_ok-nodes.nodes.items) c.deref.ensures.value c.in_ok-nodes.ensures.reached) in
    let found = subst (λ b. OnTrue b (Any (ReachesBad edges bad) nodes)) c.if-branch.true c.in_ok-is_bad_reached_before.ensures.found in
    (λ _. bad_behind_some edges bad starts nodes reached found, λ _. refl)

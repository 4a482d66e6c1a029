use Rattle.std.proofs.Common.{◌<◌, ◌++◌, All, get_or, subst, sym, ◌∙◌, ap, vec_len, arith}
use Rattle.std.proofs.lemmas.List.Elements.{All-push, Contains-get_or}
use Rattle.facet_graph.specs.Components.{node_of}
use Rattle.facet_graph.specs.declared.components.Step.{Step}
use Rattle.facet_graph.specs.declared.components.Step.TheVariants as step
use Rattle.facet_graph.proofs.components.enter.Goals as goal

pub returns-clause-inside : goal.returns-clause-inside
returns-clause-inside g c =
    let n = vec_len c.args.labelling.now.labels in
    let edges = g.G.Graph.edges c.args.graph.now c.args.node in
    let pushed = c.deref.ensures.value ∙ c.in_ok-push_edges.ensures ∙ ap (λ xs. xs ++ edges) c.clear.ensures.items in
    let behind : All (λ s. s < n) edges = λ k d below. subst (λ m. get_or edges k d < m) (sym c.requires.len) (c.requires.edges c.args.node _ c.requires.node (Contains-get_or _ k d below)) in
    let here : c.args.node < n = omega (arith, c.requires.node, c.requires.len) in
    let steps : All (λ (s : Step). node_of s < n) c.push.new.self.items = rw c.in_ok-push.ensures.items (All-push (λ (s : Step). node_of s < n) c.args.labelling.now.steps.items (step.Leave c.args.node) c.requires.inside.steps_inside here) in
    record {
      open_inside = c.requires.inside.open_inside;
      steps_inside = c.in_ok-push_steps.ensures n (subst (All (λ s. s < n)) (sym pushed) behind) steps;
    }

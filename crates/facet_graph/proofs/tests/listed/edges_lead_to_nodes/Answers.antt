use Rattle.std.proofs.Common.{◌==◌, ◌&&◌, nat_lt, arith}
use Rattle.std.proofs.lemmas.Grind.{common_steps}
use Rattle.facet_graph.specs.declared.graph.WeightedEdge.{WeightedEdge}
use Rattle.facet_graph.specs.declared.tests.listed.Arrow.{Arrow}
use Rattle.facet_graph.proofs.Listed.{listed_stays}
use Rattle.facet_graph.proofs.tests.listed.edges_lead_to_nodes.Goals as goal

pub returns : goal.returns
returns c =
    let n = c.args.graph.now.count in
    listed_stays (λ (arrow : Arrow). arrow.edge) (λ (edge : WeightedEdge). edge.node) n (λ s arrow. (arrow.from == s) && nat_lt arrow.edge.node n) (λ s arrow passes. grind (arith, common_steps, passes)) c.args.graph.now.arrows.now

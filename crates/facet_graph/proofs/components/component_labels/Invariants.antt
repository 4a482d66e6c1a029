use Rattle.std.proofs.Common.{◌≡◌, vec_len}
use Rattle.facet_graph.specs.Components.{IsInside}
use Rattle.facet_graph.proofs.components.component_labels.Given as goal

abbrev pub invariant-loop-node : goal.invariant-loop-node
invariant-loop-node g l = record {
  inside : IsInside l.labelling;
  len : vec_len l.labelling.labels ≡ g.G.Graph.count l.graph;
}

abbrev pub invariant-loop-done : goal.invariant-loop-done
invariant-loop-done g l = record {
  inside : IsInside l.labelling;
  len : vec_len l.labelling.labels ≡ g.G.Graph.count l.graph;
}

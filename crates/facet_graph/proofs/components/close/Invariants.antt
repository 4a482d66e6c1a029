use Rattle.std.proofs.Common.{◌≡◌, vec_len}
use Rattle.facet_graph.specs.Components.{IsInside}
use Rattle.facet_graph.proofs.components.close.Given as goal

abbrev pub invariant-loop-node : goal.invariant-loop-node
invariant-loop-node l = record {
  inside : IsInside l.labelling;
  len : vec_len l.labelling.labels ≡ vec_len l.fn.labelling.labels;
}

abbrev pub decreases-loop-node : goal.decreases-loop-node
decreases-loop-node l = vec_len l.labelling.open_nodes

use Rattle.facet_graph.proofs.Spans.{IsApart}
use Rattle.facet_graph.proofs.overlap.neighbours_overlap.Given as goal

abbrev pub invariant-loop-span : goal.invariant-loop-span
invariant-loop-span l = IsApart l.spans l.span-index l.last

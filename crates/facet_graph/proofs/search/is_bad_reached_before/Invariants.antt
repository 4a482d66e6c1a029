use Rattle.std.proofs.Common.{◌≡◌, vec_len}
use Rattle.facet_graph.specs.Marks.{AreClean, AreKept}
use Rattle.facet_graph.proofs.search.is_bad_reached_before.Given as goal

abbrev pub invariant-loop-node : goal.invariant-loop-node
invariant-loop-node g l = record {
  len : vec_len l.marks ≡ vec_len l.fn.marks;
  clean : AreClean (g.G.Graph.edges l.graph) (g.G.Search.bad l.graph) l.marks.items;
  kept : AreKept l.fn.marks.items l.marks.items;
}

use Rattle.std.proofs.Common.{◌≡◌, ℕ, ◌<◌, get_or, take, vec_len}
use Rattle.facet_graph.specs.Passes.{AreFilled, AreKnown}
use Rattle.facet_graph.proofs.heights.fill_blanks.Given as goal

-- after so many passes the nodes up to that height have their entries
abbrev pub invariant-loop-pass : goal.invariant-loop-pass
invariant-loop-pass g l = record {
  len : vec_len l.heights ≡ g.G.Graph.count l.graph;
  begins : take l.first l.heights.items ≡ take l.first l.fn.heights.items;
  known : AreKnown (g.G.Graph.edges l.graph) l.heights.items;
  before : (s : ℕ) → s < l.first → 0 < get_or l.heights.items s 0;
  filled : AreFilled (g.G.Graph.edges l.graph) (g.G.Graph.count l.graph) l.pass l.heights.items;
}

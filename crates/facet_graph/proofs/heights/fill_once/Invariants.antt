use Rattle.std.proofs.Common.{◌≡◌, ◌+◌, ℕ, ◌<◌, get_or, take, vec_len}
use Rattle.std.specs.Bool.{OnFalse}
use Rattle.facet_graph.specs.Height.{IsWithin}
use Rattle.facet_graph.specs.Passes.{AreFilled, AreKnown}
use Rattle.facet_graph.proofs.heights.fill_once.Given as goal

abbrev pub invariant-loop-s : goal.invariant-loop-s
invariant-loop-s g l = record {
  len : vec_len l.heights ≡ g.G.Graph.count l.graph;
  begins : take l.first l.heights.items ≡ take l.first l.fn.heights.items;
  known : AreKnown (g.G.Graph.edges l.graph) l.heights.items;
  kept : (s : ℕ) → 0 < get_or l.fn.heights.items s 0 → get_or l.heights.items s 0 ≡ get_or l.fn.heights.items s 0;
  same : OnFalse l.added (l.heights.items ≡ l.fn.heights.items);
  filled : (k : ℕ) → k < 100 → AreFilled (g.G.Graph.edges l.graph) (g.G.Graph.count l.graph) k l.fn.heights.items → (s : ℕ) → s < l.s → IsWithin (g.G.Graph.edges l.graph) (k + 1) s → 0 < get_or l.heights.items s 0;
}

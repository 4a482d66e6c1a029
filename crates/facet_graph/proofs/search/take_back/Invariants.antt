use Rattle.std.proofs.Common.{◌≡◌, ℕ, ◌&&◌, false, not, get_or, take, vec_len}
use Rattle.facet_graph.specs.Trail.{is_on}
use Rattle.facet_graph.proofs.search.take_back.Given as goal

abbrev pub invariant-loop-node : goal.invariant-loop-node
invariant-loop-node l = record {
  len : vec_len l.marks ≡ vec_len l.fn.marks;
  marks : (s : ℕ) → get_or l.marks.items s false ≡ (get_or l.fn.marks.items s false && not (is_on (take l.node-index l.trail) s));
}

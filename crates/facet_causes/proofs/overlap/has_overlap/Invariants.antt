use Rattle.std.proofs.Common.{ℕ, [], ◌<◌, slice_index_or}
use Rattle.facet_causes.specs.Reading.{layout_at}
use Rattle.facet_graph.specs.Repeats.{HaveOverlap}
use Rattle.facet_outline.specs.Field.{bodies, spans_of, tag_bytes}
use Rattle.facet_causes.proofs.overlap.has_overlap.Given as goal

abbrev pub invariant-loop-i : goal.invariant-loop-i
invariant-loop-i l = (k : ℕ) → k < l.i → ¬ HaveOverlap (spans_of (layout_at l.shapes) (tag_bytes l.kind l.ty) (slice_index_or (bodies l.kind l.ty) k []))

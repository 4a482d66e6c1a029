use Rattle.std.proofs.Common.{ℕ, ◌<◌, IfSome, slice_get}
use Rattle.facet_block.specs.Span.{IsBeside}
use Rattle.facet_values.specs.Place.{range_of}
use Rattle.facet_walk.specs.Look.{places_of}
use Rattle.facet_readable.proofs.alone.is_beside_all.Given as goal

-- the offset lies beside the parts before this one
abbrev pub invariant-loop-i : goal.invariant-loop-i
invariant-loop-i g l = (k : ℕ) → k < l.i → IfSome (slice_get (places_of l.parts) k) (λ q. IsBeside l.offset (range_of l.shapes.sealed q))

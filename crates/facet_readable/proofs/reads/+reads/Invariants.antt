use Rattle.std.proofs.Common.{ℕ, ◌+◌, ◌*◌, ◌<◌, length, slice_get, IsSomeAnd}
use Rattle.facet_values.specs.Reading.{IsReadableWithin}
use Rattle.facet_walk.specs.Look.{places_of}
use Rattle.facet_readable.proofs.reads.+reads.Given as goal

abbrev pub decreases-reads_within : goal.decreases-reads_within
decreases-reads_within g l = 2 * l.levels

abbrev pub decreases-all_read : goal.decreases-all_read
decreases-all_read g l = 2 * l.levels + 1

-- the places before this one hold values
abbrev pub invariant-all_read-loop-i : goal.invariant-all_read-loop-i
invariant-all_read-loop-i g l =
    (k : ℕ) → k < l.i → IsSomeAnd (slice_get (places_of l.parts) k) (λ q. (q.shape < length l.shapes.sealed) × IsReadableWithin g.L.Leaf.model l.shapes.sealed l.levels q)

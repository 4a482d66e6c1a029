use Rattle.std.proofs.Common.{◌≡◌, ℕ, ◌+◌, ◌<◌, ◌≤◌, None}
use Rattle.facet_readable.specs.Gaps.{IsBesideAll}
use Rattle.facet_values.specs.Place.{item_behind, place_in}
use Rattle.facet_walk.specs.Look.{places_of}
use Rattle.facet_readable.proofs.alone.is_empty_beside.Given as goal

-- no item lies before this byte, beside the parts
abbrev pub invariant-loop-i : goal.invariant-loop-i
invariant-loop-i g l =
    (k : ℕ) → l.start ≤ k → k < l.i → IsBesideAll l.shapes.sealed (l.at.offset + k) (places_of l.parts)
    → item_behind (place_in 0 l.at.block.now l.at.offset) k ≡ None

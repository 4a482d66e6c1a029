use Rattle.facet_walk.specs.Look.{places_of}
use Rattle.facet_readable.specs.KeyPlaces.{HoldsLess, key_places}
use Rattle.facet_readable.proofs.Neighbours.{NeighboursAscend}
use Rattle.facet_readable.proofs.ascending.is_in_order.Given as goal

-- each key before this one but the last is less than the next
abbrev pub invariant-loop-i : goal.invariant-loop-i
invariant-loop-i g l = NeighboursAscend (HoldsLess g.L.Leaf.model l.shapes.sealed) (key_places l.form (places_of l.parts)) l.i

use Rattle.std.proofs.Common.{◌≡◌, ◌+◌, ◌*◌, drop}
use Rattle.facet_compare.specs.Walks.{ordering_of_places, which_of}
use Rattle.facet_walk.specs.Look.{places_of}
use Rattle.facet_compare.proofs.order.+order.Given as goal

abbrev pub decreases-order_at : goal.decreases-order_at
decreases-order_at g l = 2 * l.levels

abbrev pub decreases-order_parts : goal.decreases-order_parts
decreases-order_parts g l = 2 * l.levels + 1

-- the pairs before this one are equal
abbrev pub invariant-order_parts-loop-i : goal.invariant-order_parts-loop-i
invariant-order_parts-loop-i g l =
    ordering_of_places g.L.Leaf.model l.shapes.sealed (which_of l.which) l.levels (drop l.i (places_of l.a)) (drop l.i (places_of l.b))
    ≡ ordering_of_places g.L.Leaf.model l.shapes.sealed (which_of l.which) l.levels (places_of l.a) (places_of l.b)

use Rattle.std.proofs.Common.{◌≡◌, ◌+◌, ◌*◌, drop}
use Rattle.facet_compare.specs.Walks.{equality_of_places}
use Rattle.facet_walk.specs.Look.{places_of}
use Rattle.facet_compare.proofs.equal.+equal.Given as goal

abbrev pub decreases-equal_at : goal.decreases-equal_at
decreases-equal_at g l = 2 * l.levels

abbrev pub decreases-equal_parts : goal.decreases-equal_parts
decreases-equal_parts g l = 2 * l.levels + 1

-- the pairs before this one are equal
abbrev pub invariant-equal_parts-loop-i : goal.invariant-equal_parts-loop-i
invariant-equal_parts-loop-i g l =
    equality_of_places g.L.Leaf.model l.shapes.sealed l.levels (drop l.i (places_of l.a)) (drop l.i (places_of l.b))
    ≡ equality_of_places g.L.Leaf.model l.shapes.sealed l.levels (places_of l.a) (places_of l.b)

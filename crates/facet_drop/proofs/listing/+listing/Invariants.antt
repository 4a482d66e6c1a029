use Rattle.std.proofs.Common.{◌+◌, ◌*◌}
use Rattle.facet_drop.proofs.LeavesTexts.{TextLeft}
use Rattle.facet_walk.specs.Look.{places_of}
use Rattle.facet_drop.proofs.listing.+listing.Given as goal

abbrev pub decreases-write_leaves_at : goal.decreases-write_leaves_at
decreases-write_leaves_at g l = 2 * l.levels

abbrev pub decreases-write_leaves_in : goal.decreases-write_leaves_in
decreases-write_leaves_in g l = 2 * l.levels + 1

-- the text of the parts from this one on is left to be written
abbrev pub invariant-write_leaves_in-loop-i : goal.invariant-write_leaves_in-loop-i
invariant-write_leaves_in-loop-i g l =
    TextLeft g.L.Leaf.model l.shapes.sealed l.levels (places_of l.parts) (g.W.Write.contents l.fn.out) (g.W.Write.contents l.out) l.i

use Rattle.std.proofs.Common.{◌+◌, ◌*◌}
use Rattle.facet_make.proofs.PartsMade.{PartsMade}
use Rattle.facet_make.specs.Cloning.{part_clone}
use Rattle.facet_values.specs.Replaced.{body_at}
use Rattle.facet_walk.specs.Look.{place_of}
use Rattle.facet_make.proofs.clone.+clones.Given as goal

abbrev pub decreases-clone_at : goal.decreases-clone_at
decreases-clone_at g l = 3 * l.levels + 2

abbrev pub decreases-clone_variant : goal.decreases-clone_variant
decreases-clone_variant g l = 3 * l.levels + 1

abbrev pub decreases-clone_parts : goal.decreases-clone_parts
decreases-clone_parts g l = 3 * l.levels + 3

-- the parts before this one are made
abbrev pub invariant-clone_parts-loop-i : goal.invariant-clone_parts-loop-i
invariant-clone_parts-loop-i g l =
    PartsMade g.L.Leaf.model l.shapes.sealed l.levels (part_clone g.L.Leaf.model l.shapes.sealed l.levels (place_of l.source)) (body_at l.shapes.sealed (place_of l.source)) l.at l.held l.fn.block l.fn.log
    l.i l.together l.block l.log

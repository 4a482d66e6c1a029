use Rattle.std.proofs.Common.{◌≡◌, ◌+◌, ◌*◌, ◌≤◌}
use Rattle.facet_trees.specs.Value.{greatest_depth}
use Rattle.facet_values.specs.Reading.{value_at, values_by}
use Rattle.facet_walk.specs.Look.{places_of}
use Rattle.facet_walk.proofs.PartTotals.{depth_from}
use Rattle.facet_walk.proofs.levels.+levels.Given as goal

abbrev pub decreases-depth_at : goal.decreases-depth_at
decreases-depth_at g l = 2 * l.levels

abbrev pub decreases-greatest_depth_of : goal.decreases-greatest_depth_of
decreases-greatest_depth_of g l = 2 * l.levels + 1

-- the depth of the parts before this one and of the rest is that of all
abbrev pub invariant-greatest_depth_of-loop-i : goal.invariant-greatest_depth_of-loop-i
invariant-greatest_depth_of-loop-i g l =
    record {
      depth : depth_from (value_at l.shapes.sealed l.levels) (places_of l.parts) l.i l.greatest ≡ greatest_depth (values_by (value_at l.shapes.sealed l.levels) (places_of l.parts));
      bound : l.greatest ≤ l.levels;
    }

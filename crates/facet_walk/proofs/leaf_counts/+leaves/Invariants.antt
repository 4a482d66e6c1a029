use Rattle.std.proofs.Common.{◌≡◌, ◌+◌, ◌*◌, ◌≤◌, length, min}
use Rattle.facet_trees.specs.Value.{leaves_of_parts}
use Rattle.facet_values.specs.Reading.{value_at, values_by}
use Rattle.facet_walk.specs.Look.{places_of}
use Rattle.facet_walk.proofs.PartTotals.{count_from}
use Rattle.facet_walk.proofs.leaf_counts.+leaves.Given as goal

abbrev pub decreases-leaves_at : goal.decreases-leaves_at
decreases-leaves_at g l = 2 * l.levels

abbrev pub decreases-leaves_in : goal.decreases-leaves_in
decreases-leaves_in g l = 2 * l.levels + 1

-- the leaves of the parts before this one and of the rest are those of all
abbrev pub invariant-leaves_in-loop-i : goal.invariant-leaves_in-loop-i
invariant-leaves_in-loop-i g l =
    record {
      count : count_from (value_at l.shapes.sealed l.levels) (places_of l.parts) 18446744073709551615 l.i l.total
          ≡ min (length (leaves_of_parts (values_by (value_at l.shapes.sealed l.levels) (places_of l.parts)))) 18446744073709551615;
      most : l.total ≤ 18446744073709551615;
    }

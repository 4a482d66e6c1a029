use Rattle.std.proofs.Common.{◌≡◌, ◌+◌, ◌≤◌, drop, length, min}
use Rattle.facet_session.specs.Cell.{stored_in_all}
use Rattle.facet_session.proofs.cells.leaf_count_of_cells.Given as goal

-- the leaves of the cells before this one and of the rest are those of all
abbrev pub invariant-loop-cell : goal.invariant-loop-cell
invariant-loop-cell g l =
    record {
      count : min (l.total + length (stored_in_all l.shapes.sealed (drop l.cell-index l.cells))) 18446744073709551615 ≡ min (length (stored_in_all l.shapes.sealed l.cells)) 18446744073709551615;
      most : l.total ≤ 18446744073709551615;
    }

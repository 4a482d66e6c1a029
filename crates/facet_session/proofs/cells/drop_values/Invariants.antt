use Rattle.std.proofs.Common.{◌≡◌, ◌≤◌, ◌++◌, length, drop}
use Rattle.facet_session.specs.Cell.{stored_in_all}
use Rattle.facet_session.proofs.cells.drop_values.Given as goal

abbrev pub invariant-loop-i : goal.invariant-loop-i
invariant-loop-i g l =
    record {
      rest : drop l.i l.cells.items ≡ drop l.i l.fn.cells.items;
      count : length l.cells.items ≡ length l.fn.cells.items;
      leaves : l.log.leaves ++ stored_in_all l.shapes.sealed (drop l.i l.fn.cells.items) ≡ l.fn.log.leaves ++ stored_in_all l.shapes.sealed l.fn.cells.items;
      room : length (stored_in_all l.shapes.sealed (drop l.i l.fn.cells.items)) ≤ l.log.spare;
    }

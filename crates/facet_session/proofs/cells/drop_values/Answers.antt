use Rattle.std.proofs.Common.{◌<◌, ◌+◌, ◌∙◌, ap, drop, length, arith, length-append, length-set}
use Rattle.facet_session.specs.Cell.{HoldsValue, stored_in, stored_in_all}
use Rattle.facet_base.proofs.Lists.{All_at, some_there}
use Rattle.facet_session.proofs.DroppingCells.{next_cell, next_stored, same_at, same_behind}
use Rattle.facet_session.proofs.cells.drop_values.Goals as goal
use Rattle.facet_session.proofs.cells.drop_values.Goals.{in-Some, in_default}

pub drop_cell-requires-clause-held : goal.drop_cell-requires-clause-held
drop_cell-requires-clause-held g c =
    let cells = c.args.cells.now.items in
    let here = same_at c.loop-i.cells.items cells c.loop-i.i c.in-Some.cell.now c.loop-i.invariant.rest c.in-Some.ensures.value in
    All_at (HoldsValue g.L.Leaf.model c.args.shapes.now.sealed) cells c.loop-i.i c.in-Some.cell.now c.requires.held here

pub drop_cell-requires-clause-room : goal.drop_cell-requires-clause-room
drop_cell-requires-clause-room g c =
    let shapes = c.args.shapes.now.sealed in
    let cells = c.args.cells.now.items in
    let here = same_at c.loop-i.cells.items cells c.loop-i.i c.in-Some.cell.now c.loop-i.invariant.rest c.in-Some.ensures.value in
    omega (arith, c.loop-i.invariant.room, ap length (next_cell shapes cells c.loop-i.i c.in-Some.cell.now here), length-append (stored_in shapes c.in-Some.cell.now) (stored_in_all shapes (drop (c.loop-i.i + 1) cells)))

pub loop-i-preserved : goal.loop-i-preserved
loop-i-preserved g c =
    let cells = c.args.cells.now.items in
    let i = c.loop-i.i in
    let inv = c.loop-i.invariant in
    elim c.match-get_mut.branch [
      | in-Some w ↦
          let here = same_at c.loop-i.cells.items cells i w.in-Some.cell.now inv.rest w.in-Some.ensures.value in
          record {
            rest = rw w.cells-is (same_behind c.loop-i.cells.items cells i w.drop_cell.new.cell inv.rest);
            count = rw w.cells-is (length-set c.loop-i.cells.items i w.drop_cell.new.cell ∙ inv.count);
            leaves = rw w.log-is (next_stored c.args.shapes.now.sealed cells i w.in-Some.cell.now _ _ _ here inv.leaves w.drop_cell.ensures.leaves);
            room = rw w.log-is (omega (arith, inv.room, w.drop_cell.ensures.spare, ap length (next_cell c.args.shapes.now.sealed cells i w.in-Some.cell.now here), length-append (stored_in c.args.shapes.now.sealed w.in-Some.cell.now) (stored_in_all c.args.shapes.now.sealed (drop (i + 1) cells))));
          }
      | in_default w ↦
          let below : i < length c.loop-i.cells.items = omega (arith, inv.count, c.loop-i-test.true, c.len-i-end.ensures) in
          absurd (some_there c.loop-i.cells.items i below w.in_default.ensures.value)
    ]

use Rattle.std.proofs.Common.{◌≡◌, ◌++◌, drop}
use Rattle.std.specs.Str.{IsUtf8}
use Rattle.facet_drop.specs.LeavesText.{leaves_text}
use Rattle.facet_session.specs.Cell.{stored_in_all}
use Rattle.facet_session.proofs.writing.text_of_end.Given as goal

abbrev pub invariant-loop-cell : goal.invariant-loop-cell
invariant-loop-cell g l =
    let m = g.L.Leaf.model in
    record {
      utf8 : IsUtf8 l.list.items;
      written : l.list.items ++ leaves_text m (stored_in_all l.shapes.sealed (drop l.cell-index l.cells)) ≡ leaves_text m (stored_in_all l.shapes.sealed l.cells);
    }

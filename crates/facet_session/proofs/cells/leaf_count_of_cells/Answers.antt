use Rattle.std.proofs.Common.{◌≡◌, [], ◌∷◌, ◌+◌, ◌∙◌, ap, sym, drop, length, length-append, arith}
use Rattle.std.proofs.lemmas.List.{drop_all, drop_more}
use Rattle.facet_session.specs.Cell.{stored_in, stored_in_all}
use Rattle.facet_session.proofs.cells.leaf_count_of_cells.Goals as goal

pub loop-cell-preserved : goal.loop-cell-preserved
loop-cell-preserved g c =
    let sealed = c.args.shapes.now.sealed in
    let i = c.loop-cell.cell-index in
    let cell = c.cell-item.result in
    let cells = c.args.cells.now in
    let rest = drop (i + 1) cells in
    let step : drop i cells ≡ cell ∷ rest = drop_more cells i cell c.loop-cell-test.true ∙ ap (λ x. x ∷ rest) (sym c.cell-item.is) in
    let next = ap (λ cs. length (stored_in_all sealed cs)) step ∙ length-append (stored_in sealed cell) (stored_in_all sealed rest) in
    record {
      count = omega (arith, c.loop-cell.invariant.count, next, c.saturating_add-total.ensures, c.leaf_count_of.ensures, c.loop-cell.invariant.most);
      most = omega (arith, c.saturating_add-total.ensures);
    }

pub returns : goal.returns
returns g c =
    let cells = c.args.cells.now in
    let none : drop c.loop-cell.cell-index cells ≡ [] = drop_all c.loop-cell.cell-index cells (omega (arith, c.loop-cell-test.false)) in
    let gone = ap (λ cs. length (stored_in_all c.args.shapes.now.sealed cs)) none in
    omega (arith, c.loop-cell.invariant.count, c.loop-cell.invariant.most, gone)

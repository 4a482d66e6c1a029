use Rattle.std.proofs.Common.{◌≡◌, [], ◌∷◌, ◌++◌, ◌+◌, ◌∙◌, ap, sym, subst, drop, append_assoc, arith}
use Rattle.std.proofs.lemmas.List.{append-nil, drop_all, drop_more}
use Rattle.std.proofs.lemmas.List.Concat.{flat_map-append}
use Rattle.std.proofs.lemmas.Str.{IsUtf8-append}
use Rattle.std.specs.Prelude.{codes}
use Rattle.std.specs.Str.{IsUtf8}
use Rattle.facet_drop.specs.LeavesText.{leaves_text}
use Rattle.facet_session.specs.Cell.{stored_in, stored_in_all}
use Rattle.facet_session.proofs.AnswerTexts.{end_utf8}
use Rattle.facet_session.proofs.writing.text_of_end.Goals as goal

pub loop-cell-preserved : goal.loop-cell-preserved
loop-cell-preserved g c =
    let m = g.L.Leaf.model in
    let i = c.loop-cell.cell-index in
    let cell = c.cell-item.result in
    let cells = c.args.cells.now in
    let sealed = c.args.shapes.now.sealed in
    let before = c.loop-cell.list.items in
    let rest = drop (i + 1) cells in
    let step : drop i cells ≡ cell ∷ rest = drop_more cells i cell c.loop-cell-test.true ∙ ap (λ x. x ∷ rest) (sym c.cell-item.is) in
    let here = leaves_text m (stored_in sealed cell) in
    let behind = leaves_text m (stored_in_all sealed rest) in
    record {
      utf8 = subst IsUtf8 (sym c.in_ok-push_stored.ensures.written) (IsUtf8-append _ _ c.loop-cell.invariant.utf8 c.in_ok-push_stored.ensures.utf8);
      written =
          ap (λ xs. xs ++ behind) c.in_ok-push_stored.ensures.written
          ∙ append_assoc before here behind
          ∙ ap (λ xs. before ++ xs) (sym (flat_map-append (λ x. codes ", " ++ m.debug x) (stored_in sealed cell) (stored_in_all sealed rest)))
          ∙ ap (λ cs. before ++ leaves_text m (stored_in_all sealed cs)) (sym step)
          ∙ c.loop-cell.invariant.written;
    }

pub from_utf8-requires : goal.from_utf8-requires
from_utf8-requires g c =
    let m = g.L.Leaf.model in
    let sealed = c.args.shapes.now.sealed in
    let cells = c.args.cells.now in
    let list = c.loop-cell.list.items in
    let none : drop c.loop-cell.cell-index cells ≡ [] = drop_all c.loop-cell.cell-index cells (omega (arith, c.loop-cell-test.false)) in
    let all = subst (λ cs. list ++ leaves_text m (stored_in_all sealed cs) ≡ leaves_text m (stored_in_all sealed cells)) none c.loop-cell.invariant.written in
    let whole = c.as_slice.ensures.value ∙ sym (append-nil list) ∙ all in
    let front = subst IsUtf8 (sym c.in_ok-extend_from_slice.ensures.items) (subst (λ bytes. IsUtf8 (bytes ++ codes "end")) (sym c.new-bytes.ensures.items) end_utf8) in
    c.in_ok-push_list.ensures.utf8 (stored_in_all sealed cells) whole front

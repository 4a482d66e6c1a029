use Rattle.std.proofs.Common.{arith, refl, add-one, ◌∷◌, []}
use Rattle.std.proofs.lemmas.Result.{err_from_is_err_and}
use Rattle.facet_leaf.specs.scalars.ScalarTexts.{escaped}
use Rattle.facet_leaf.proofs.TextsInParts.{left_after_run, left_after_last_run, item_is_first, one_more_is_kept, left_after_part, begun_within_part, rest_is_written}
use Rattle.facet_leaf.proofs.scalars.texts.write_quoted.Goals as goal
use Rattle.facet_leaf.proofs.scalars.texts.write_quoted.Goals.{then-is_escaped+in_ok-write-2+in_ok-write_escaped, else-is_escaped}

pub returns-in_err-write_escaped : goal.returns-in_err-write_escaped
returns-in_err-write_escaped g c =
    let f = escaped c.args.quote in
    let bytes = c.args.bytes.now in
    let end = c.loop-end.end in
    let run = left_after_run f bytes c.loop-end.start end _ _ _ (c.args.quote ∷ []) _ (omega arith) (omega arith) c.loop-end.invariant.kept c.loop-end.invariant.left c.in_ok-write-2.ensures.appended in
    let stop = begun_within_part _ _ _ _ _ _ (item_is_first f bytes end _ _ (c.args.quote ∷ []) _ (omega arith) run) c.in_err-write_escaped.ensures in
    let p = err_from_is_err_and c.from_residual-in_err-write_escaped.result c.from_residual-in_err-write_escaped.ensures.1 in rw p.1 stop

pub loop-end-preserved : goal.loop-end-preserved
loop-end-preserved g c =
    let f = escaped c.args.quote in
    let bytes = c.args.bytes.now in
    let start = c.loop-end.start in
    let end = c.loop-end.end in
    let h = c.loop-end.invariant in elim c.if-is_escaped.branch [
      | then-is_escaped+in_ok-write-2+in_ok-write_escaped w ↦
          let run = left_after_run f bytes start end _ _ _ (c.args.quote ∷ []) _ (omega arith) (omega arith) h.kept h.left w.in_ok-write-2.ensures.appended in
          let item = left_after_part _ _ _ _ _ _ (item_is_first f bytes end _ _ (c.args.quote ∷ []) _ (omega arith) run) w.in_ok-write_escaped.ensures in record {
            in_order = omega arith;
            left = rw (w.out-is, w.start-is, add-one) item;
            kept = λ k a b. absurd (omega arith);
          }
      | else-is_escaped w ↦ record {
        in_order = omega arith;
        left = rw (w.out-is, w.start-is) h.left;
        kept = rw w.start-is (one_more_is_kept f bytes start end h.kept (w.if-is_escaped.ensures.0 refl));
      }
    ]

pub returns : goal.returns
returns g c =
    let f = escaped c.args.quote in
    let bytes = c.args.bytes.now in
    let start = c.loop-end.start in
    let run = left_after_last_run f bytes start _ _ _ (c.args.quote ∷ []) _ (omega arith) (λ k a b. c.loop-end.invariant.kept k a (omega arith)) c.loop-end.invariant.left c.in_ok-write-3.ensures.appended in
    rest_is_written _ _ _ _ _ _ run c.write-3.ensures.appended c.write-3.ensures.refused

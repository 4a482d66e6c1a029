use Rattle.std.proofs.Common.{arith, ◌∙◌}
use Rattle.std.proofs.lemmas.List.{take_rest, length-drop}
use Rattle.facet_script.proofs.WrittenPieces.{appends_next, appends_beginning}
use Rattle.facet_script.proofs.output.write_all.Goals as goal

pub loop-sent-preserved : goal.loop-sent-preserved
loop-sent-preserved g c =
    let piece = c.args.piece.now in
    let sent = c.loop-sent.sent in
    let bytes = rw (take_rest piece sent) at c.in-Ok.ensures.bytes in
    let bound = rw (take_rest piece sent) at c.in-Ok.ensures.bound in
    record {
      within = omega (arith, length-drop sent piece, bound);
      handed = appends_next _ _ _ piece sent c.in-Ok.count c.loop-sent.invariant.handed bytes;
      kept = c.in-Ok.ensures.cause.kept ∙ c.loop-sent.invariant.kept;
    }

pub returns-in-Err-clause-bytes : goal.returns-in-Err-clause-bytes
returns-in-Err-clause-bytes g c =
    appends_beginning _ _ _ c.args.piece.now c.loop-sent.sent c.loop-sent-test.true c.loop-sent.invariant.handed c.in-Err.ensures.bytes

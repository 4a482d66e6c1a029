use Rattle.std.proofs.Common.{◌<◌, ◌∙◌, sym, arith, length, length-append}
use Rattle.std.proofs.lemmas.Bool.{leb-false}
use Rattle.facet_session.proofs.commands.put.refusal_of.Goals as goal

pub kind_of-requires : goal.kind_of-requires
kind_of-requires g c =
    let shapes = c.args.session.now.shapes in
    let below : c.args.shape.0 < length shapes.sealed = leb-false _ _ (sym c.is_unsealed.ensures.test ∙ c.if-is_unsealed.false) in
    omega (arith, length-append shapes.sealed shapes.drafts)

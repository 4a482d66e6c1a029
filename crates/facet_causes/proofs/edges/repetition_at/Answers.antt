use Rattle.std.proofs.Common.{◌∙◌}
use Rattle.facet_causes.proofs.Readings.{found, missing, repetition_found, repetition_missing}
use Rattle.facet_causes.proofs.edges.repetition_at.Goals as goal

pub returns-in-Some : goal.returns-in-Some
returns-in-Some c =
    let shapes = c.args.shapes.now in
    c.repetition.ensures ∙ repetition_found shapes c.args.s c.in-Some.shape.now (found shapes c.args.s c.get.result c.in-Some.shape c.get.ensures c.in-Some.is)

pub returns-in-None : goal.returns-in-None
returns-in-None c = repetition_missing c.args.shapes.now c.args.s (missing c.args.shapes.now c.args.s c.get.result c.get.ensures c.in-None.is)

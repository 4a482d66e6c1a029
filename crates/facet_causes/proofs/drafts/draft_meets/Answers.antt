use Rattle.std.proofs.Common.{ap, sym, ◌∙◌}
use Rattle.facet_causes.specs.Causes.{ShapeMeets}
use Rattle.facet_causes.specs.Reading.{OfShape}
use Rattle.facet_causes.proofs.Found.{answer_as}
use Rattle.facet_causes.proofs.Readings.{found}
use Rattle.facet_causes.proofs.SameMeets.{meets_same}
use Rattle.facet_causes.proofs.drafts.draft_meets.Goals as goal

pub returns-in-Some : goal.returns-in-Some
returns-in-Some g c =
    let model = g.L.Leaf.model in
    let shapes = c.args.shapes.now in
    let is = found shapes c.args.s c.get.result c.in-Some.shape c.get.ensures c.in-Some.is in
    answer_as c.shape_meets.result _ _ (sym (meets_same model shapes c.args.cause c.args.s c.in-Some.shape.now) ∙ ap (OfShape (ShapeMeets model shapes c.args.cause c.args.s)) (sym is)) c.shape_meets.ensures

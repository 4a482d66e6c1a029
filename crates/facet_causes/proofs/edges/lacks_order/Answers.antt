use Rattle.std.proofs.Common.{not, ap, ◌∙◌}
use Rattle.facet_causes.proofs.Readings.{found, missing, order_found, order_missing}
use Rattle.facet_causes.proofs.edges.lacks_order.Goals as goal

pub returns-in-Some : goal.returns-in-Some
returns-in-Some c =
    let shapes = c.args.shapes.now in
    let is = found shapes c.args.s c.get.result c.in-Some.shape c.get.ensures c.in-Some.is in
    ap not c.has_order.ensures ∙ order_found shapes c.args.s c.in-Some.shape.now is

pub returns-in-None : goal.returns-in-None
returns-in-None c = order_missing c.args.shapes.now c.args.s (missing c.args.shapes.now c.args.s c.get.result c.get.ensures c.in-None.is)

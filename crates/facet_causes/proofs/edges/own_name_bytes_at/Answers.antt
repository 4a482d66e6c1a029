use Rattle.std.proofs.Common.{◌∙◌}
use Rattle.facet_causes.proofs.Readings.{found, missing, own_found, own_missing}
use Rattle.facet_causes.proofs.edges.own_name_bytes_at.Goals as goal

pub returns-in-Some : goal.returns-in-Some
returns-in-Some c =
    let shapes = c.args.shapes.now in
    c.own_name_bytes.ensures ∙ own_found shapes c.args.s c.in-Some.shape.now (found shapes c.args.s c.get.result c.in-Some.shape c.get.ensures c.in-Some.is)

pub returns-in-None : goal.returns-in-None
returns-in-None c = own_missing c.args.shapes.now c.args.s (missing c.args.shapes.now c.args.s c.get.result c.get.ensures c.in-None.is)

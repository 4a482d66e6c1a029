use Rattle.std.proofs.Common.{◌++◌, ap, sym, ◌∙◌}
use Rattle.std.proofs.lemmas.List.{append-nil}
use Rattle.std.proofs.lemmas.Result.{IfOk-equal}
use Rattle.facet_outline.specs.References.{height_references}
use Rattle.facet_causes.proofs.Readings.{found, before_found, before_missing, missing}
use Rattle.facet_causes.proofs.edges.push_before.Goals as goal

pub returns-in-Some : goal.returns-in-Some
returns-in-Some c =
    let shapes = c.args.shapes.now in
    let shape = c.in-Some.shape.now in
    let old = c.args.to.now.items in
    let there = before_found shapes c.args.s shape (found shapes c.args.s c.get.result c.in-Some.shape c.get.ensures c.in-Some.is) in
    IfOk-equal c.push_height_references.result c.push_height_references.new.to.items (old ++ height_references shape) _ c.push_height_references.ensures
    (ap (λ ids. old ++ ids) there)

pub returns-in-None : goal.returns-in-None
returns-in-None c =
    let none = before_missing c.args.shapes.now c.args.s (missing c.args.shapes.now c.args.s c.get.result c.get.ensures c.in-None.is) in
    sym (append-nil c.args.to.now.items) ∙ ap (λ ids. c.args.to.now.items ++ ids) none

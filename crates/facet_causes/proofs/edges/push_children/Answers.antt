use Rattle.std.proofs.Common.{◌++◌, ap, sym, ◌∙◌}
use Rattle.std.proofs.lemmas.List.{append-nil}
use Rattle.std.proofs.lemmas.Result.{IfOk-equal}
use Rattle.facet_causes.proofs.Readings.{found, children_found, children_missing, missing}
use Rattle.facet_causes.proofs.edges.push_children.Goals as goal
use Rattle.facet_type_name.specs.Name.{name_children}

pub returns-in-Some : goal.returns-in-Some
returns-in-Some c =
    let shapes = c.args.shapes.now in
    let shape = c.in-Some.shape.now in
    let old = c.args.to.now.items in
    let there = children_found shapes c.args.s shape (found shapes c.args.s c.get.result c.in-Some.shape c.get.ensures c.in-Some.is) in
    IfOk-equal c.push_name_children.result c.push_name_children.new.to.items (old ++ name_children shape) _ c.push_name_children.ensures
    (ap (λ ids. old ++ ids) there)

pub returns-in-None : goal.returns-in-None
returns-in-None c =
    let none = children_missing c.args.shapes.now c.args.s (missing c.args.shapes.now c.args.s c.get.result c.get.ensures c.in-None.is) in
    sym (append-nil c.args.to.now.items) ∙ ap (λ ids. c.args.to.now.items ++ ids) none

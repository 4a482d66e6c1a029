use Rattle.facet_walk.proofs.ReadableParts.{value_there}
use Rattle.facet_compare.proofs.TotalAnswers.{never_unordered}
use Rattle.facet_compare.proofs.order.call_cmp.Goals as goal

pub unreachable-requires : goal.unreachable-requires
unreachable-requires g c =
    let e = rw c.in-Some-None.field-0-is at c.in-Some-None.ensures in
    never_unordered g.L.Leaf.model c.args.shapes.now.sealed c.args.s.0 _ _ e

pub returns-in-Some-Some-clause-values : goal.returns-in-Some-Some-clause-values
returns-in-Some-Some-clause-values g c = λ v w one other.
    let m = g.L.Leaf.model in
    let shapes = c.args.shapes.now.sealed in
    let e = rw c.in-Some-Some.field-0-is at c.in-Some-Some.ensures in
    rw (value_there m shapes c.requires.first v one, value_there m shapes c.requires.second w other) at e

pub returns-in-None-clause-values : goal.returns-in-None-clause-values
returns-in-None-clause-values g c = λ v w one other.
    let m = g.L.Leaf.model in
    let shapes = c.args.shapes.now.sealed in
    let e = c.in-None.ensures in
    rw (value_there m shapes c.requires.first v one, value_there m shapes c.requires.second w other) at e

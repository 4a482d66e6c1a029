use Rattle.facet_walk.proofs.ReadableParts.{value_there}
use Rattle.facet_compare.proofs.equal.call_partial_eq.Goals as goal

pub returns-clause-values : goal.returns-clause-values
returns-clause-values g c = λ v w one other.
    let m = g.L.Leaf.model in
    let shapes = c.args.shapes.now.sealed in
    let e = c.equal_at.ensures in
    rw (value_there m shapes c.requires.first v one, value_there m shapes c.requires.second w other) at e

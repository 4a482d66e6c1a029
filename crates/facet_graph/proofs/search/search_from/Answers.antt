use Rattle.std.proofs.Common.{sym, subst}
use Rattle.facet_graph.specs.Trail.{IsTrail}
use Rattle.facet_graph.proofs.Trails.{back_where_found, back_where_refused}
use Rattle.facet_graph.proofs.search.search_from.Goals as goal

pub returns-clause-unchanged : goal.returns-clause-unchanged
returns-clause-unchanged g c =
    let old = c.args.marks.now.items in
    let back = c.take_back.ensures.back old (subst (IsTrail old c.walk-answer.new.marks.items) (sym c.deref.ensures.value) c.walk-answer.ensures.trail) in
    back_where_found c.match-answer.answer back

pub returns-clause-err : goal.returns-clause-err
returns-clause-err g c =
    let old = c.args.marks.now.items in
    let back = c.take_back.ensures.back old (subst (IsTrail old c.walk-answer.new.marks.items) (sym c.deref.ensures.value) c.walk-answer.ensures.trail) in
    back_where_refused c.match-answer.answer back

use Rattle.std.proofs.Common.{◌&&◌, false, not, get_or, ◌∙◌, ap, arith}
use Rattle.std.proofs.lemmas.List.{take_all}
use Rattle.facet_graph.specs.Trail.{is_on}
use Rattle.facet_graph.proofs.Trails.{taken_back}
use Rattle.facet_graph.proofs.search.take_back.Goals as goal

pub returns-clause-back : goal.returns-clause-back
returns-clause-back c = λ before is.
    let all = take_all c.loop-node.node-index c.args.trail.now (omega arith) in
    taken_back before c.args.marks.now.items c.loop-node.marks.items c.args.trail.now is (omega (arith, c.loop-node.invariant.len))
    (λ s. c.loop-node.invariant.marks s ∙ ap (λ trail. get_or c.args.marks.now.items s false && not (is_on trail s)) all)

use Rattle.std.proofs.Common.{sym, ◌∙◌, below_more, arith}
use Rattle.std.proofs.lemmas.Bool.{false≢true}
use Rattle.facet_graph.specs.Reach.{ReachesItself}
use Rattle.facet_graph.proofs.cycles.least_on_cycle.Goals as goal

pub loop-node-preserved : goal.loop-node-preserved
loop-node-preserved g c = λ s below. below_more (λ t. ¬ ReachesItself (g.G.Graph.edges c.args.graph.now) t) _ c.loop-node.invariant (λ back. let found = c.in_ok-is_on_cycle.ensures.1 back in absurd (false≢true (sym c.if-branch.false ∙ found))) s below

pub returns : goal.returns
returns g c = λ s below. c.loop-node.invariant s (omega arith)

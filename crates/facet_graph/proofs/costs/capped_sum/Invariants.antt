use Rattle.std.proofs.Common.{◌≡◌, ◌+◌, ◌*◌, get_or, sum_by, take}
use Rattle.facet_graph.specs.Cost.{capped}
use Rattle.facet_graph.proofs.costs.capped_sum.Given as goal

abbrev pub invariant-loop-edge : goal.invariant-loop-edge
invariant-loop-edge l = l.total ≡ capped (l.own + sum_by (λ edge. edge.weight * get_or l.costs edge.node 0) (take l.edge-index l.edges))

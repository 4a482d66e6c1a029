use Rattle.std.proofs.Common.{◌<◌, ◌≤◌, get_or, below_more, arith}
use Rattle.std.proofs.lemmas.Grind.{common_steps}
use Rattle.std.proofs.lemmas.List.Elements.{All-from_get_or, All-get_or}
use Rattle.facet_graph.proofs.heights.height_above.Goals as goal

pub loop-node-preserved : goal.loop-node-preserved
loop-node-preserved c = record {
  known = below_more _ _ c.loop-node.invariant.known (omega arith);
  above = below_more _ _ (λ i below. let low = c.loop-node.invariant.above i below in grind (arith, common_steps, low)) (grind (arith, common_steps));
  least = λ k all. let old = c.loop-node.invariant.least k (λ i below. all i (omega arith)) in let new = all c.loop-node.node-index (omega arith) in grind (arith, common_steps, old, new);
}

pub returns-then-greatest-lt-MAX_HEIGHT-clause-known : goal.returns-then-greatest-lt-MAX_HEIGHT-clause-known
returns-then-greatest-lt-MAX_HEIGHT-clause-known c = λ _. All-from_get_or (λ t. 0 < get_or c.args.heights.now t 0) c.args.nodes.now 0 (λ i below. c.loop-node.invariant.known i (omega arith))

pub returns-then-greatest-lt-MAX_HEIGHT-clause-above : goal.returns-then-greatest-lt-MAX_HEIGHT-clause-above
returns-then-greatest-lt-MAX_HEIGHT-clause-above c = λ _ k. (
  (λ least. All-from_get_or (λ t. get_or c.args.heights.now t 0 ≤ k) c.args.nodes.now 0 (λ i below. let low = c.loop-node.invariant.above i (omega arith) in omega (arith, low))),
  (λ all. let low = c.loop-node.invariant.least k (λ i below. All-get_or (λ t. get_or c.args.heights.now t 0 ≤ k) c.args.nodes.now i 0 (omega arith) all) in omega (arith, low)),
)

pub returns-else-greatest-lt-MAX_HEIGHT-clause-ready : goal.returns-else-greatest-lt-MAX_HEIGHT-clause-ready
returns-else-greatest-lt-MAX_HEIGHT-clause-ready c = λ ready.
    let low = c.loop-node.invariant.least 99 (λ i below. let at = All-get_or (λ t. (0 < get_or c.args.heights.now t 0) × (get_or c.args.heights.now t 0 < 100)) c.args.nodes.now i 0 (omega arith) ready in omega (arith, at.1)) in
    omega (arith, low)

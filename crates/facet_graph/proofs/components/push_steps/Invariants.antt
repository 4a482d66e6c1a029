use Rattle.std.proofs.Common.{ℕ, ◌<◌, All}
use Rattle.facet_graph.specs.Components.{node_of}
use Rattle.facet_graph.proofs.components.push_steps.Given as goal

abbrev pub invariant-loop-node : goal.invariant-loop-node
invariant-loop-node l = (n : ℕ) → All (λ s. s < n) l.nodes → All (λ step. node_of step < n) l.fn.steps.items → All (λ step. node_of step < n) l.steps.items

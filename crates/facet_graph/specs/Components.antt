-- The state of the search for components: that it holds nodes alone.
use Rattle.std.specs.Prelude.{ℕ, ◌<◌, All, vec_len}
use Rattle.facet_graph.specs.declared.components.Labelling.{Labelling}
use Rattle.facet_graph.specs.declared.components.Step.{Step}
use Rattle.facet_graph.specs.declared.components.Step.TheVariants as step

-- the node of a step
abbrev pub node_of : Step → ℕ
node_of (step.Enter node) = node
node_of (step.Leave node) = node

-- each node that is open, or has a step to come, has a label
pub record IsInside (labelling : Labelling) : Type 0 where
  pub open_inside : All (λ s. s < vec_len labelling.labels) labelling.open_nodes.items
  pub steps_inside : All (λ step. node_of step < vec_len labelling.labels) labelling.steps.items

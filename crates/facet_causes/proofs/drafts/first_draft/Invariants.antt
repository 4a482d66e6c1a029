use Rattle.std.proofs.Common.{ℕ, ◌<◌}
use Rattle.facet_causes.specs.Causes.{Meets}
use Rattle.facet_causes.proofs.drafts.first_draft.Given as goal

abbrev pub invariant-loop-s : goal.invariant-loop-s
invariant-loop-s g l = (t : ℕ) → t < l.s → ¬ Meets g.L.Leaf.model l.shapes l.cause t

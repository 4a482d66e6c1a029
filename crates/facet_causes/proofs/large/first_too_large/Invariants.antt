use Rattle.std.proofs.Common.{ℕ, ◌<◌}
use Rattle.facet_causes.specs.Causes.{Meets}
use Rattle.facet_causes.specs.declared.cause.SealCause.TheVariants as cause
use Rattle.facet_causes.proofs.large.first_too_large.Given as goal

abbrev pub invariant-loop-s : goal.invariant-loop-s
invariant-loop-s g l = (t : ℕ) → t < l.s → ¬ Meets g.L.Leaf.model l.shapes cause.TooLarge t

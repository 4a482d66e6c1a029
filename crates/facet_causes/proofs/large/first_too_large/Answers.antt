use Rattle.facet_causes.specs.declared.cause.SealCause.TheVariants as cause
use Rattle.facet_causes.proofs.large.first_too_large.Goals as goal

pub loop-s-init : goal.loop-s-init
loop-s-init g c = λ t below. c.requires.sealed cause.TooLarge t below

use Rattle.facet_causes.specs.declared.cause.SealCause.TheVariants as cause
use Rattle.facet_causes.proofs.keys.first_key_without_order.Goals as goal

pub loop-s-init : goal.loop-s-init
loop-s-init g c = record {
  len = c.requires.len;
  clean = c.requires.clean;
  none = λ t below. c.requires.sealed cause.KeyNotOrd t below;
}

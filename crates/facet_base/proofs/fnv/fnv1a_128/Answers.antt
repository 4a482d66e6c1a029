use Rattle.std.proofs.Common.{rules, refl}
use Rattle.std.proofs.hash.Loops.{byte_more}
use Rattle.facet_base.specs.Fnv.{fnv}
use Rattle.facet_base.proofs.fnv.fnv1a_128.Goals as goal

pub loop-byte-init : goal.loop-byte-init
unfolding fnv
loop-byte-init c = refl

pub loop-byte-preserved : goal.loop-byte-preserved
unfolding fnv
loop-byte-preserved c = search (rules, byte_more)

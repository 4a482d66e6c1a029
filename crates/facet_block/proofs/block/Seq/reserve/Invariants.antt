use Rattle.std.proofs.Common.{◌≡◌}
use Rattle.facet_block.specs.Seq.{with_new_spare}
use Rattle.facet_block.proofs.block.Seq.reserve.Given as goal

abbrev pub invariant-loop-made : goal.invariant-loop-made
invariant-loop-made g l = l.self ≡ with_new_spare l.initial.self l._made

use Rattle.std.proofs.Common.{◌≡◌, ◌*◌, ◌+◌}
use Rattle.facet_block.proofs.Sequences.{changed_blocks}
use Rattle.facet_block_callers.specs.Retagged.{retagged}
use Rattle.facet_block_callers.proofs.tags.+deep.Given as goal

abbrev pub decreases-retag_deep : goal.decreases-retag_deep
decreases-retag_deep g l = 2 * l.levels

abbrev pub decreases-retag_deep_each : goal.decreases-retag_deep_each
decreases-retag_deep_each g l = 2 * l.levels + 1

abbrev pub invariant-retag_deep_each-loop-i : goal.invariant-retag_deep_each-loop-i
invariant-retag_deep_each-loop-i g l = l.sequence ≡ changed_blocks (retagged l.levels l.tag) l.initial.sequence l.i

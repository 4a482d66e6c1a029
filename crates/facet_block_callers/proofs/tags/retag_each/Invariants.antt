use Rattle.std.proofs.Common.{◌≡◌}
use Rattle.facet_block.proofs.Sequences.{changed_blocks}
use Rattle.facet_block_callers.specs.Retagged.{with_tag}
use Rattle.facet_block_callers.proofs.tags.retag_each.Given as goal

abbrev pub invariant-loop-i : goal.invariant-loop-i
invariant-loop-i g l = l.sequence ≡ changed_blocks (with_tag l.at l.tag) l.initial.sequence l.i

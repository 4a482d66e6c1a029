use Rattle.std.proofs.Common.{◌+◌, ◌≤◌}
use Rattle.facet_block.specs.Block.{size_of}
use Rattle.facet_iterate.proofs.Ends.{kept_before}
use Rattle.facet_iterate.proofs.pairs.MapIterDoubleEndedIterator.next_back.Goals as goal

pub invariant_of-self : goal.invariant_of-self
invariant_of-self g c = kept_before (λ at. at.offset + c.self.inside.value_offset ≤ size_of at.block) c.self.inside.keys c.next_back.new.self c.next_back.result c.next_back.ensures.steps c.self.invariant

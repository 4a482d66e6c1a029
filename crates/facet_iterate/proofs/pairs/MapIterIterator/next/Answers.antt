use Rattle.std.proofs.Common.{◌+◌, ◌≤◌}
use Rattle.facet_block.specs.Block.{size_of}
use Rattle.facet_iterate.proofs.Ends.{kept_behind}
use Rattle.facet_iterate.proofs.pairs.MapIterIterator.next.Goals as goal

pub invariant_of-self : goal.invariant_of-self
invariant_of-self g c = kept_behind (λ at. at.offset + c.self.inside.value_offset ≤ size_of at.block) c.self.inside.keys c.next.new.self c.next.result c.next.ensures.steps c.self.invariant

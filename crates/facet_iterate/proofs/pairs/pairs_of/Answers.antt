use Rattle.facet_block.specs.Seq.{filled_of}
use Rattle.facet_iterate.proofs.Ends.{starts_within}
use Rattle.facet_iterate.proofs.pairs.pairs_of.Goals as goal

pub invariant_of-result : goal.invariant_of-result
invariant_of-result g c = rw c.elements_of.ensures (starts_within (filled_of c.args.blocks.now) c.args.value_offset c.requires)

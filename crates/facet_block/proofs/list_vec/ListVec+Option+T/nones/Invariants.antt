use Rattle.std.proofs.Common.{◌≡◌, replicate, None}
use Rattle.facet_block.proofs.list_vec.ListVec+Option+T.nones.Given as goal

abbrev pub invariant-loop-i : goal.invariant-loop-i
invariant-loop-i g l = l.items.items ≡ replicate l.i None

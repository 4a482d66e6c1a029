use Rattle.std.proofs.Common.{◌≡◌, ◌++◌, map, take}
use Rattle.facet_outline.proofs.refers.push_each.Given as goal

abbrev pub invariant-loop-item : goal.invariant-loop-item
invariant-loop-item g l = l.to.items ≡ l.initial.to.items ++ map g.T.Refers.shape_of (take l.item-index l.items)

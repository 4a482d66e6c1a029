use Rattle.std.proofs.Common.{◌≡◌, ◌++◌, take}
use Rattle.facet_causes.specs.Reading.{indices}
use Rattle.facet_causes.proofs.edges.push_indices.Given as goal

abbrev pub invariant-loop-id : goal.invariant-loop-id
invariant-loop-id l = l.to.items ≡ l.initial.to.items ++ indices (take l.id-index l.ids)

use Rattle.std.proofs.Common.{◌≡◌, ◌++◌, map, take}
use Rattle.facet_causes.proofs.edges.push_weighted.Given as goal

abbrev pub invariant-loop-id : goal.invariant-loop-id
invariant-loop-id l = l.to.items ≡ l.initial.to.items ++ map (λ id. record { node = id.0; weight = l.weight }) (take l.id-index l.ids)

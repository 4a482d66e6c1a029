use Rattle.std.proofs.Common.{◌≡◌, ◌++◌, drop, length}
use Rattle.facet_registry.specs.Prelude.{prelude_kinds, scalar_shapes}
use Rattle.facet_registry.proofs.registry.prelude_shapes.Given as goal

-- the shapes so far, and those of the kinds that are left, are all sixteen
abbrev pub invariant-loop-kind : goal.invariant-loop-kind
invariant-loop-kind g l =
    record {
      count : length l.shapes ≡ l.kind-index;
      rest : l.shapes ++ scalar_shapes g.L.Leaf.model l.kind-index (drop l.kind-index l.kind-items) ≡ scalar_shapes g.L.Leaf.model 0 prelude_kinds;
    }

use Rattle.std.proofs.Common.{◌≡◌, drop}
use Rattle.std.specs.Prelude.{fold}
use Rattle.facet_registry.specs.Offsets.{part_at}
use Rattle.facet_registry.specs.Registry.{all_shapes}
use Rattle.facet_makers.specs.Types.{tuple_parts, with_part}
use Rattle.facet_makers.proofs.tuple_parts.tuple_parts.Given as goal

-- the parts so far, and then those that are left, are all
abbrev pub invariant-loop-t : goal.invariant-loop-t
invariant-loop-t g l =
    fold (λ tuple t. with_part tuple t (part_at (all_shapes l.shapes) t)) l.tuple (drop l.t-index l.ids) ≡ tuple_parts (part_at (all_shapes l.shapes)) l.ids

use Rattle.std.proofs.Common.{◌≡◌, drop}
use Rattle.std.specs.List.{list_any}
use Rattle.facet_registry.specs.Registry.{all_shapes, offers}
use Rattle.facet_registry.proofs.capability.any.Given as goal

abbrev pub invariant-loop-id : goal.invariant-loop-id
invariant-loop-id g l = list_any (λ id. offers (all_shapes l.shapes) id.0 l.c) (drop l.id-index l.ids) ≡ list_any (λ id. offers (all_shapes l.shapes) id.0 l.c) l.ids

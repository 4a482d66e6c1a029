use Rattle.std.proofs.Common.{◌≡◌, ◌++◌, take}
use Rattle.std.specs.List.{flat_map}
use Rattle.facet_outline.specs.Field.{placed}
use Rattle.facet_outline.proofs.placed_fields.push_all_placed.Given as goal

abbrev pub invariant-loop-variant : goal.invariant-loop-variant
invariant-loop-variant l = l.to.items ≡ l.initial.to.items ++ flat_map (λ v. placed v.body) (take l.variant-index l.variants)

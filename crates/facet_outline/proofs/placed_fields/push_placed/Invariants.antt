use Rattle.std.proofs.Common.{◌≡◌, ◌++◌, map, take}
use Rattle.facet_outline.proofs.placed_fields.push_placed.Given as goal

abbrev pub invariant-loop-field : goal.invariant-loop-field
invariant-loop-field l = l.to.items ≡ l.initial.to.items ++ map (λ f. record { shape = f.shape; offset = f.offset }) (take l.field-index l.fields)

use Rattle.std.proofs.Common.{◌≡◌, ◌++◌, take}
use Rattle.std.specs.List.{flat_map}
use Rattle.facet_outline.specs.References.{fields_of_struct}
use Rattle.facet_outline.proofs.fields.push_enum_fields.Given as goal

abbrev pub invariant-loop-variant : goal.invariant-loop-variant
invariant-loop-variant l = l.to.items ≡ l.initial.to.items ++ flat_map (λ v. fields_of_struct v.body) (take l.variant-index l.variant-items)

use Rattle.std.proofs.Common.{◌≡◌, ◌++◌, take}
use Rattle.std.specs.List.{flat_map}
use Rattle.facet_outline.specs.References.{shapes_in}
use Rattle.facet_outline.proofs.references.push_held.Given as goal

abbrev pub invariant-loop-attribute : goal.invariant-loop-attribute
invariant-loop-attribute l = l.to.items ≡ l.initial.to.items ++ flat_map (λ a. shapes_in a.payload) (take l.attribute-index l.attributes)

-- What a maker asks of the shapes that are there.
use Rattle.std.specs.Prelude.{ℕ, Bool, false, List, is_some, slice_get}
use Rattle.std.specs.Option.{option_map_or}
use Rattle.facet_outline.specs.ValueKind.{slice_element}
use Rattle.facet_shape.specs.declared.shape.Shape.{Shape}

-- the shape under an id is defined as a slice
abbrev pub is_slice_at : List Shape → ℕ → Bool
is_slice_at shapes s = option_map_or (λ shape. is_some (slice_element shape.def)) (slice_get shapes s) false

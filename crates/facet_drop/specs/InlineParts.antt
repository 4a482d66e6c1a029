-- The inline parts of the value at a place, and the leaves of the values at places.
use Rattle.std.specs.Prelude.{ℕ, List, map, take}
use Rattle.facet_block.specs.Span.{Span}
use Rattle.facet_shape.specs.declared.shape.Shape.{Shape}
use Rattle.facet_trees.specs.Value.{leaves_of_parts}
use Rattle.facet_values.specs.Place.{Place, part_places, range_of}
use Rattle.facet_values.specs.Reading.{value_at, values_by}
use Rattle.facet_values.specs.Replaced.{body_at}

module _ {L : Type 0} (shapes : List Shape) where
  -- the places of the inline parts of the value at a place
  abbrev pub inline_places : Place L → List (Place L)
  inline_places p = part_places p (body_at shapes p)

  -- those of the first so many of them
  abbrev pub first_places : Place L → ℕ → List (Place L)
  first_places p count = take count (inline_places p)

  -- the ranges of places
  abbrev pub ranges_of : List (Place L) → List Span
  ranges_of places = map (range_of shapes) places

  -- the leaves of the values of so many levels at most at some places, in order
  abbrev pub leaves_at : ℕ → List (Place L) → List L
  leaves_at levels places = leaves_of_parts (values_by (value_at shapes levels) places)

-- The hash writes of the values at places.
use Rattle.std.specs.Prelude.{ℕ, List, map}
use Rattle.facet_compare.specs.Hash.{HashWrites, hash_writes, hash_writes_of_parts}
use Rattle.facet_leaf.specs.LeafModel.{LeafModel}
use Rattle.facet_shape.specs.declared.shape.Shape.{Shape}
use Rattle.facet_values.specs.Place.{Place}
use Rattle.facet_values.specs.Reading.{value_at, values_by}

module _ {L : Type 0} (m : LeafModel L) (shapes : List Shape) (levels : ℕ) where
  -- those of the value of so many levels at most at a place, by the shape of the place
  abbrev pub hash_writes_at : Place L → HashWrites
  hash_writes_at p = hash_writes m shapes p.shape (value_at shapes levels p)

  -- those of the values at several places, one after another
  abbrev pub hash_writes_of_places : List (Place L) → HashWrites
  hash_writes_of_places ps = hash_writes_of_parts m shapes (map (λ p. p.shape) ps) (values_by (value_at shapes levels) ps)

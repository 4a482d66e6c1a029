-- Bytes of a place in which no item may lie.
use Rattle.std.specs.Prelude.{◌≡◌, ℕ, ◌+◌, ◌*◌, ◌<◌, ◌≤◌, List, [], All, IsSomeAnd, None, length, slice_get}
use Rattle.facet_block.specs.Span.{IsBeside}
use Rattle.facet_def.specs.declared.def.Def.{Def}
use Rattle.facet_def.specs.declared.def.Def.TheVariants as def
use Rattle.facet_registry.specs.Registry.{size_at}
use Rattle.facet_shape.specs.declared.shape.Shape.{Shape}
use Rattle.facet_values.specs.Place.{Place, item_behind, range_of}
use Rattle.facet_values.specs.Seen.{Seen, a_node}
use Rattle.facet_walk.specs.Look.{IsInside}

module _ {L : Type 0} where
  -- no item lies in the bytes of a place from one on and below another
  abbrev pub IsEmptyFrom : Place L → ℕ → ℕ → Type 0
  IsEmptyFrom p start end = (i : ℕ) → start ≤ i → i < end → item_behind p i ≡ None

  -- the places of the parts of what is seen
  abbrev pub parts_of_seen : Seen L → List (Place L)
  parts_of_seen (a_node form parts) = parts
  parts_of_seen _ = []

  module _ (shapes : List Shape) where
    -- an offset lies beside the ranges of places
    abbrev pub IsBesideAll : ℕ → List (Place L) → Type 0
    IsBesideAll offset parts = All (λ q. IsBeside offset (range_of shapes q)) parts

    -- no item lies in the bytes of a place from one on and below another, beside the ranges of other places
    abbrev pub IsEmptyBeside : Place L → ℕ → ℕ → List (Place L) → Type 0
    IsEmptyBeside p start end parts = (i : ℕ) → start ≤ i → i < end → IsBesideAll (p.offset + i) parts → item_behind p i ≡ None

    -- each of the places begins in its block, or at its end, and is of a shape that is there
    pub record AreKnownPlaces (places : List (Place L)) : Type 0 where
      pub each : (i : ℕ) → i < length places → IsSomeAnd (slice_get places i) (λ q. (q.shape < length shapes) × IsInside q)

-- the size of the elements of an array together, by its definition
abbrev pub row_size : List Shape → Def → ℕ
row_size shapes (def.Array a) = a.n * size_at shapes a.t.0
row_size shapes _ = 0

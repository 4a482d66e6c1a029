-- What the walks over two places answer, in the words of the definitions.
use Rattle.std.specs.Prelude.{◌≡◌, ℕ, Bool, List, Option, Some, map, slice_get}
use Rattle.facet_compare.specs.declared.order.Which as Asked
use Rattle.facet_compare.specs.declared.order.Which.TheVariants as asked
use Rattle.facet_leaf.specs.LeafModel.{LeafModel}
use Rattle.facet_shape.specs.declared.shape.Shape.{Shape}
use Rattle.facet_trees.specs.Equal.{equality_of_parts}
use Rattle.facet_trees.specs.Order.{Answer, Which, by_partial, by_total, ordering_of_parts}
use Rattle.facet_values.specs.Place.{Place}
use Rattle.facet_values.specs.Reading.{value_at, values_by}

-- the order that the code asks for
abbrev pub which_of : Asked.Which → Which
which_of asked.Partial = by_partial
which_of asked.Total = by_total

module _ {L : Type 0} where
  -- places of two lists at one index have the same shape
  pub record HaveSameShapes (ps qs : List (Place L)) : Type 0 where
    pub each : (i : ℕ) (p q : Place L) → slice_get ps i ≡ Some p → slice_get qs i ≡ Some q → p.shape ≡ q.shape

  module _ (m : LeafModel L) (shapes : List Shape) where
    -- the answer of equality on the values of so many levels at most at the places of two lists, pair by pair, each by the shape of the first
    abbrev pub equality_of_places : ℕ → List (Place L) → List (Place L) → Option Bool
    equality_of_places levels ps qs =
        equality_of_parts m shapes (map (λ p. p.shape) ps) (values_by (value_at shapes levels) ps) (values_by (value_at shapes levels) qs)

    -- the same of an order
    abbrev pub ordering_of_places : Which → ℕ → List (Place L) → List (Place L) → Answer
    ordering_of_places which levels ps qs =
        ordering_of_parts m shapes which (map (λ p. p.shape) ps) (values_by (value_at shapes levels) ps) (values_by (value_at shapes levels) qs)

-- Places that begin in their blocks and are of shapes that are there, by their numbers.
use Rattle.std.proofs.Common.{◌≡◌, ℕ, suc, ◌<◌, List, [], ◌∷◌, All, IfSome, IsSomeAnd, Option, None, Some, length, slice_get, subst, arith}
use Rattle.std.proofs.lemmas.List.Elements.{All-cons, All-nil}
use Rattle.std.proofs.lemmas.Option.{slice_get_within}
use Rattle.facet_readable.specs.Gaps.{AreKnownPlaces}
use Rattle.facet_shape.specs.declared.shape.Shape.{Shape}
use Rattle.facet_values.specs.Place.{Place}
use Rattle.facet_walk.specs.Look.{IsInside}

-- what holds of the one at each index holds of all
pub all_from_each : {X : Type 0} (P : X → Type 0) (xs : List X) → ((k : ℕ) → k < length xs → IfSome (slice_get xs k) P) → All P xs
all_from_each P [] each = All-nil P
all_from_each P (x ∷ xs) each = All-cons P x xs (each 0 (omega arith)) (all_from_each P xs (λ k below. each (suc k) (omega (arith, below))))

module _ {L : Type 0} {shapes : List Shape} {places : List (Place L)} (known : AreKnownPlaces shapes places) where
  abbrev IsKnownPlace : Place L → Type 0
  IsKnownPlace q = (q.shape < length shapes) × IsInside q

  second_of : (o : Option (Place L)) → IsSomeAnd o IsKnownPlace → IsSomeAnd o IsInside
  second_of None is = absurd is
  second_of (Some q) is = is.1

  pub begins_at : (i : ℕ) → i < length places → IsSomeAnd (slice_get places i) IsInside
  begins_at i below = second_of (slice_get places i) (known.each i below)

  pub shape_at : (i : ℕ) (q : Place L) → slice_get places i ≡ Some q → q.shape < length shapes
  shape_at i q is =
      let both = subst (λ o. IsSomeAnd o IsKnownPlace) is (known.each i (slice_get_within places i q is)) in
      both.0

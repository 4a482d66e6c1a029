-- Places that all read as values: the first of them, and the others.
use Rattle.std.proofs.Common.{◌≡◌, ℕ, zero, suc, ◌<◌, List, [], ◌∷◌, ◌++◌, IsSomeAnd, length, slice_get, refl, sym, ap, ◌∙◌, append_assoc, arith}
use Rattle.facet_drop.specs.InlineParts.{leaves_at}
use Rattle.facet_leaf.specs.LeafModel.{LeafModel}
use Rattle.facet_shape.specs.declared.shape.Shape.{Shape}
use Rattle.facet_trees.specs.Value.{leaves}
use Rattle.facet_values.specs.Place.{Place}
use Rattle.facet_values.specs.Reading.{IsReadableWithin, value_at}
use Rattle.facet_walk.specs.Look.{AreReadable}

-- the place is of a shape that is there, and reads as a value of so many levels at most
abbrev pub IsThere : {L : Type 0} → LeafModel L → List Shape → ℕ → Place L → Type 0
IsThere m shapes levels q = (q.shape < length shapes) × IsReadableWithin m shapes levels q

module _ {L : Type 0} {m : LeafModel L} {shapes : List Shape} {levels : ℕ} where
  pub first_readable : (p : Place L) (ps : List (Place L)) → AreReadable m shapes levels (p ∷ ps) → IsThere m shapes levels p
  first_readable p ps r = r.each 0 (omega arith)

  pub others_readable : (p : Place L) (ps : List (Place L)) → AreReadable m shapes levels (p ∷ ps) → AreReadable m shapes levels ps
  others_readable p ps r = record { each = λ i below. r.each (suc i) (omega arith) }

  each_there : (p : Place L) (ps : List (Place L)) → IsThere m shapes levels p → AreReadable m shapes levels ps → (i : ℕ) → i < length (p ∷ ps) → IsSomeAnd (slice_get (p ∷ ps) i) (IsThere m shapes levels)
  each_there p ps one rest zero below = one
  each_there p ps one rest (suc i) below = rest.each i (omega arith)

  pub both_readable : (p : Place L) (ps : List (Place L)) → IsThere m shapes levels p → AreReadable m shapes levels ps → AreReadable m shapes levels (p ∷ ps)
  both_readable p ps one rest = record { each = each_there p ps one rest }

  pub none_readable : AreReadable m shapes levels []
  none_readable = record { each = λ i below. absurd (omega arith) }

  -- places and then others: the first read, and the others
  pub front_readable : (ps qs : List (Place L)) → AreReadable m shapes levels (ps ++ qs) → AreReadable m shapes levels ps
  front_readable [] qs r = none_readable
  front_readable (p ∷ ps) qs r = both_readable p ps (first_readable p (ps ++ qs) r) (front_readable ps qs (others_readable p (ps ++ qs) r))

  pub back_readable : (ps qs : List (Place L)) → AreReadable m shapes levels (ps ++ qs) → AreReadable m shapes levels qs
  back_readable [] qs r = r
  back_readable (p ∷ ps) qs r = back_readable ps qs (others_readable p (ps ++ qs) r)

-- their leaves one list behind the other
pub leaves_of_both : {L : Type 0} (shapes : List Shape) (levels : ℕ) (ps qs : List (Place L)) → leaves_at shapes levels (ps ++ qs) ≡ leaves_at shapes levels ps ++ leaves_at shapes levels qs
leaves_of_both shapes levels [] qs = refl
leaves_of_both shapes levels (p ∷ ps) qs =
    let first = leaves (value_at shapes levels p) in
    ap (λ xs. first ++ xs) (leaves_of_both shapes levels ps qs) ∙ sym (append_assoc first (leaves_at shapes levels ps) (leaves_at shapes levels qs))

-- The depth and the leaves of values in a list, part by part.
use Rattle.std.proofs.Common.{◌≡◌, ℕ, zero, suc, ◌+◌, ◌≤◌, List, [], ◌∷◌, Some, max, min, drop, length, slice_get, ap, arith, length-append}
use Rattle.std.proofs.lemmas.List.{drop_all}
use Rattle.facet_trees.specs.Value.{Value, more, depth, greatest_depth, leaves, leaves_of_parts}
use Rattle.facet_values.specs.Place.{Place}
use Rattle.facet_values.specs.Reading.{values_by}

module _ {L : Type 0} (value : Place L → Value L) (ps : List (Place L)) where
  -- the values from one place on are that of this place, and then those after it
  values_step : (ps : List (Place L)) (i : ℕ) {p : Place L} → slice_get ps i ≡ Some p → values_by value (drop i ps) ≡ more (value p) (values_by value (drop (i + 1) ps))
  values_step [] i e = absurd (cc)
  values_step (q ∷ qs) zero {p} e = let same : q ≡ p = cc in cc
  values_step (q ∷ qs) (suc i) e =
      let next : suc i + 1 ≡ suc (i + 1) = omega arith in
      rw next (values_step qs i e)

  -- the greatest depth so far, and that of the rest
  abbrev pub depth_from : ℕ → ℕ → ℕ
  depth_from i greatest = max greatest (greatest_depth (values_by value (drop i ps)))

  -- the number of leaves so far, and that of the rest, up to a limit
  abbrev pub count_from : ℕ → ℕ → ℕ → ℕ
  count_from limit i total = min (total + length (leaves_of_parts (values_by value (drop i ps)))) limit

  pub depth_step : (i : ℕ) {p : Place L} (greatest d : ℕ) → slice_get ps i ≡ Some p → d ≡ depth (value p) → depth_from (i + 1) (max greatest d) ≡ depth_from i greatest
  depth_step i {p} greatest d e is =
      let next = ap greatest_depth (values_step ps i e) in
      omega (arith, next, is)

  pub depth_end : (i greatest : ℕ) → length ps ≤ i → depth_from i greatest ≡ greatest
  depth_end i greatest past = rw (drop_all i ps past) (omega arith)

  pub count_step : (limit i : ℕ) {p : Place L} (total n : ℕ) → slice_get ps i ≡ Some p → n ≡ min (length (leaves (value p))) limit
      → count_from limit (i + 1) (min (total + n) limit) ≡ count_from limit i total
  count_step limit i {p} total n e is =
      let next = ap (λ vs. length (leaves_of_parts vs)) (values_step ps i e) in
      let both = length-append (leaves (value p)) (leaves_of_parts (values_by value (drop (i + 1) ps))) in
      omega (arith, next, both, is)

  pub count_end : (limit i total : ℕ) → length ps ≤ i → total ≤ limit → count_from limit i total ≡ total
  count_end limit i total past most = rw (drop_all i ps past) (omega arith)

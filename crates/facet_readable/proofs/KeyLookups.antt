-- The places of keys by their numbers.
use Rattle.std.proofs.Common.{◌≡◌, ℕ, zero, suc, ◌*◌, List, [], ◌∷◌, Some, length, map, slice_get, refl, sym, ap, ◌∙◌, arith}
use Rattle.std.specs.Int.{div_ceil}
use Rattle.facet_trees.specs.Ascending.{keys_of}
use Rattle.facet_trees.specs.Value.{Value, every_second, listed}
use Rattle.facet_trees.specs.declared.form.Form.{Form}
use Rattle.facet_trees.specs.declared.form.Form.TheVariants as form
use Rattle.facet_values.specs.Place.{Place}
use Rattle.facet_values.specs.Reading.{values_by}
use Rattle.facet_readable.specs.KeyPlaces.{every_second_place, key_places}

-- a form that is neither that of a map nor that of a set
abbrev pub IsKeyless : Form → Type 0
IsKeyless form.Map = ⊥
IsKeyless form.Set = ⊥
IsKeyless _ = Unit {0}

pub keyless : (shown : Form) → ¬ (shown ≡ form.Map) → ¬ (shown ≡ form.Set) → IsKeyless shown
keyless form.Map other another = absurd (other refl)
keyless form.Set other another = absurd (another refl)
keyless _ other another = tt

module _ {L : Type 0} where
  second_lookup : (ps : List (Place L)) (i : ℕ) → slice_get (every_second_place ps) i ≡ slice_get ps (2 * i)
  second_lookup [] i = refl
  second_lookup (key ∷ []) zero = refl
  second_lookup (key ∷ []) (suc i) =
      let past : 2 * suc i ≡ suc (suc (2 * i)) = omega arith in
      rw past refl
  second_lookup (key ∷ value ∷ rest) zero = refl
  second_lookup (key ∷ value ∷ rest) (suc i) =
      let next : 2 * suc i ≡ suc (suc (2 * i)) = omega arith in
      rw next (second_lookup rest i)

  second_count : (ps : List (Place L)) → div_ceil (length ps) 2 ≡ length (every_second_place ps)
  second_count [] = refl
  second_count (key ∷ []) = omega arith
  second_count (key ∷ value ∷ rest) = omega (arith, second_count rest)

  pub key_of_map : (shown : Form) (ps : List (Place L)) (i : ℕ) → shown ≡ form.Map → slice_get (key_places shown ps) i ≡ slice_get ps (2 * i)
  key_of_map shown ps i is = ap (λ f. slice_get (key_places f ps) i) is ∙ second_lookup ps i

  pub count_of_map : (shown : Form) (ps : List (Place L)) → shown ≡ form.Map → div_ceil (length ps) 2 ≡ length (key_places shown ps)
  count_of_map shown ps is = second_count ps ∙ ap (λ f. length (key_places f ps)) (sym is)

  -- each of the places of the keys is one of the parts
  pub of_parts : (P : Place L → Type 0) (ps : List (Place L)) → ((i : ℕ) (p : Place L) → slice_get ps i ≡ Some p → P p) → (form : Form) (i : ℕ) (p : Place L) → slice_get (key_places form ps) i ≡ Some p → P p
  of_parts P ps all form.Map i p is = all (2 * i) p (sym (second_lookup ps i) ∙ is)
  of_parts P ps all form.Set i p is = all i p is
  of_parts P ps all _ i p is = absurd (cc)

  pub no_key_places : (form : Form) (ps : List (Place L)) → IsKeyless form → key_places form ps ≡ []
  no_key_places form.Map ps none = absurd none
  no_key_places form.Set ps none = absurd none
  no_key_places _ ps none = refl

  -- the keys are the values at the places of the keys
  module _ (value : Place L → Value L) where
    listed_values : (ps : List (Place L)) → listed (values_by value ps) ≡ map value ps
    listed_values [] = refl
    listed_values (p ∷ ps) = ap (λ rest. value p ∷ rest) (listed_values ps)

    second_values : (ps : List (Place L)) → every_second (values_by value ps) ≡ map value (every_second_place ps)
    second_values [] = refl
    second_values (key ∷ []) = refl
    second_values (key ∷ other ∷ rest) = ap (λ rest. value key ∷ rest) (second_values rest)

    pub keys_at : (form : Form) (ps : List (Place L)) → keys_of form (values_by value ps) ≡ map value (key_places form ps)
    keys_at form.Map ps = second_values ps
    keys_at form.Set ps = listed_values ps
    keys_at _ ps = refl

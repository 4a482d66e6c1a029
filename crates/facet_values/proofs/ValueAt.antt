-- The value that a place reads as is found.
use Rattle.std.proofs.Common.{◌≡◌, ◌↔◌, ℕ, zero, suc, ◌≤◌, List, [], ◌∷◌, refl, sym, ap, ◌∙◌, subst, arith}
use Rattle.facet_leaf.specs.LeafModel.{LeafModel}
use Rattle.facet_shape.specs.declared.shape.Shape.{Shape}
use Rattle.facet_trees.specs.Value.{Value, Values, depth, greatest_depth, leaf, node, none, more}
use Rattle.facet_values.specs.Place.{Place}
use Rattle.facet_values.specs.Reading.{IsReadableWithin, ReadAll, Reads, value_at, value_by, values_by}

module _ {L : Type 0} (m : LeafModel L) (shapes : List Shape) where
  mutual
    unfolding value_at

    -- a value of so many levels at most that a place reads as is the one that is found
    pub value_found : (levels : ℕ) (p : Place L) (v : Value L) → Reads m shapes p v → depth v ≤ levels → value_at shapes levels p ≡ v
    value_found zero p (leaf x) reads shallow = absurd (omega arith)
    value_found zero p (node form vs) reads shallow = absurd (omega arith)
    value_found (suc levels) p (leaf x) reads shallow = ap (value_by (value_at shapes levels)) reads.1
    value_found (suc levels) p (node form vs) reads shallow =
        ap (value_by (value_at shapes levels)) reads.2 ∙ ap (node form) (values_found levels reads.0 vs reads.3 (omega arith))

    pub values_found : (levels : ℕ) (ps : List (Place L)) (vs : Values L) → ReadAll m shapes ps vs → greatest_depth vs ≤ levels
        → values_by (value_at shapes levels) ps ≡ vs
    values_found levels [] none reads shallow = refl
    values_found levels [] (more v vs) reads shallow = absurd reads
    values_found levels (p ∷ ps) none reads shallow = absurd reads
    values_found levels (p ∷ ps) (more v vs) reads shallow =
        let e = value_found levels p v reads.0 (omega arith) in
        let f = values_found levels ps vs reads.1 (omega arith) in
        cc

  pub readable_value : (levels : ℕ) (p : Place L) → (is : IsReadableWithin m shapes levels p) → value_at shapes levels p ≡ is.value
  readable_value levels p is = value_found levels p is.value is.reads is.shallow

  pub the_value_is_found : (levels : ℕ) (p : Place L) (v : Value L)
      → ((Reads m shapes p v × (depth v ≤ levels)) ↔ (IsReadableWithin m shapes levels p × (value_at shapes levels p ≡ v)))
  the_value_is_found levels p v = (
    λ both. (record { value = v; reads = both.0; shallow = both.1 }, value_found levels p v both.0 both.1),
    λ both.
        let same = sym (readable_value levels p both.0) ∙ both.1 in
        subst (λ w. Reads m shapes p w × (depth w ≤ levels)) same (both.0.reads, both.0.shallow),
  )

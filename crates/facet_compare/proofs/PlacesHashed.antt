-- The hash writes of the values at places, step by step.
use Rattle.std.proofs.Common.{◌≡◌, ℕ, zero, suc, ◌+◌, ◌-◌, ◌≤◌, ◌&&◌, true, false, List, [], ◌∷◌, ◌++◌, Some, drop, length, slice_get, refl, sym, ap, ◌∙◌, arith}
use Rattle.std.proofs.lemmas.List.{drop_all}
use Rattle.facet_base.specs.declared.characteristic.Characteristic.TheVariants as trait
use Rattle.facet_causes.specs.Causes.{IsWellFormed}
use Rattle.facet_leaf.specs.LeafModel.{LeafModel}
use Rattle.facet_leaf.specs.hashing.HashWrite.{HashWrite, fed_all}
use Rattle.facet_registry.specs.Registry.{offers}
use Rattle.facet_shape.specs.declared.shape.Shape.{Shape}
use Rattle.facet_trees.proofs.OfferedComparisons.{leaves_can, some_fits}
use Rattle.facet_trees.specs.Structure.{part_shapes, scalar, structure_at}
use Rattle.facet_trees.specs.Value.{Value, leaf, node, count}
use Rattle.facet_trees.specs.declared.form.Form.{Form}
use Rattle.facet_values.proofs.FittingValues.{reading_fits, shapes_of_seen}
use Rattle.facet_values.specs.Place.{Place}
use Rattle.facet_values.specs.Reading.{IsReadableWithin, Reads, value_at, values_by}
use Rattle.facet_values.specs.Seen.{a_leaf, a_node, seen}
use Rattle.facet_walk.proofs.ReadableParts.{value_of_seen}
use Rattle.facet_compare.proofs.ComparedPlaces.{count_values}
use Rattle.facet_compare.proofs.HashLaws.{hash_is_there, if_there}
use Rattle.facet_compare.specs.Hash.{HashWrites, finished_with, form_writes, hash_writes, hash_writes_of_parts, is_hashable, writes_then}
use Rattle.facet_compare.specs.HashedPlaces.{hash_writes_at, hash_writes_of_places}

fed_both : {S : Type 0} (fed : S → HashWrite → S) (state : S) (one other : List HashWrite) → fed_all fed state (one ++ other) ≡ fed_all fed (fed_all fed state one) other
fed_both fed state [] other = refl
fed_both fed state (w ∷ one) other = fed_both fed (fed state w) one other

-- feeding the first writes and then the others is feeding both
pub fed_then : {S : Type 0} (fed : S → HashWrite → S) (state : S) (one : List HashWrite) (other : HashWrites) →
    fed_all fed (fed_all fed state one) other.writes ≡ fed_all fed state (writes_then (finished_with one) other).writes
fed_then fed state one other = sym (fed_both fed state one other.writes)

stopped : (first next : HashWrites) → false ≡ first.finished → writes_then first next ≡ first
stopped first next is = rw (← is)

going_on : (first next : HashWrites) → true ≡ first.finished → writes_then first next ≡ writes_then (finished_with first.writes) next
going_on first next is = rw (← is)

module _ {L : Type 0} (m : LeafModel L) (shapes : List Shape) (levels : ℕ) where
  -- the writes from one place on are those of this one, and then of those after it
  places_step : (ps : List (Place L)) (i : ℕ) {p : Place L} → slice_get ps i ≡ Some p →
      hash_writes_of_places m shapes levels (drop i ps) ≡ writes_then (hash_writes_at m shapes levels p) (hash_writes_of_places m shapes levels (drop (i + 1) ps))
  unfolding hash_writes hash_writes_of_parts
  places_step [] i e = absurd (cc)
  places_step (q ∷ ps) zero {p} e = let same : q ≡ p = cc in cc
  places_step (q ∷ ps) (suc i) e =
      let next : suc i + 1 ≡ suc (i + 1) = omega arith in
      rw next (places_step ps i e)

  pub places_stop : (ps : List (Place L)) (i : ℕ) {p : Place L} → slice_get ps i ≡ Some p → false ≡ (hash_writes_at m shapes levels p).finished →
      hash_writes_of_places m shapes levels (drop i ps) ≡ hash_writes_at m shapes levels p
  places_stop ps i {p} e is = places_step ps i e ∙ stopped (hash_writes_at m shapes levels p) (hash_writes_of_places m shapes levels (drop (i + 1) ps)) is

  pub places_go : (ps : List (Place L)) (i : ℕ) {p : Place L} → slice_get ps i ≡ Some p → true ≡ (hash_writes_at m shapes levels p).finished →
      hash_writes_of_places m shapes levels (drop i ps)
      ≡ writes_then (finished_with (hash_writes_at m shapes levels p).writes) (hash_writes_of_places m shapes levels (drop (i + 1) ps))
  places_go ps i {p} e is = places_step ps i e ∙ going_on (hash_writes_at m shapes levels p) (hash_writes_of_places m shapes levels (drop (i + 1) ps)) is

  -- feeding what is written of a place, and then of those after it, is feeding what is written from it on
  pub places_fed : {S : Type 0} (fed : S → HashWrite → S) (state next : S) (ps : List (Place L)) (i : ℕ) {p : Place L} → slice_get ps i ≡ Some p
      → true ≡ (hash_writes_at m shapes levels p).finished → next ≡ fed_all fed state (hash_writes_at m shapes levels p).writes
      → fed_all fed next (hash_writes_of_places m shapes levels (drop (i + 1) ps)).writes ≡ fed_all fed state (hash_writes_of_places m shapes levels (drop i ps)).writes
  places_fed fed state next ps i {p} e is step =
      let rest = hash_writes_of_places m shapes levels (drop (i + 1) ps) in
      ap (λ x. fed_all fed x rest.writes) step
      ∙ fed_then fed state (hash_writes_at m shapes levels p).writes rest
      ∙ sym (ap (λ (w : HashWrites). fed_all fed state w.writes) (places_go ps i e is))

  pub places_end : (ps : List (Place L)) (i : ℕ) → length ps ≤ i → hash_writes_of_places m shapes levels (drop i ps) ≡ finished_with []
  unfolding hash_writes_of_parts
  places_end ps i past = rw (drop_all i ps past) refl

-- the kind of a leaf that is seen is that of the shape
kind_seen : {L : Type 0} (m : LeafModel L) (shapes : List Shape) (p : Place L) (v : Value L) → Reads m shapes p v → (x : L) → a_leaf x ≡ seen shapes p → structure_at shapes p.shape ≡ scalar (m.kind x)
kind_seen m shapes p (leaf y) reads x is =
    let found = reads.1 in
    let same : y ≡ x = cc in
    reading_fits m shapes p (leaf y) reads ∙ ap (λ z. scalar (m.kind z)) same
kind_seen m shapes p (node form vs) reads x is = let found = reads.2 in absurd (cc)

-- a place that reads as a value of a shape with a hash
module _ {L : Type 0} {m : LeafModel L} {shapes : List Shape} {levels : ℕ} {p : Place L} (well : IsWellFormed m shapes) (r : IsReadableWithin m shapes levels p)
    (offered : true ≡ offers shapes p.shape trait.Hash) where
  there : (offers shapes p.shape trait.Hash && is_hashable (structure_at shapes p.shape)) ≡ true
  there = hash_is_there m shapes well p.shape (some_fits m shapes p.shape r.value (reading_fits m shapes p r.value r.reads)) (sym offered)

  -- a leaf can be hashed
  pub leaf_can_hash : (x : L) → a_leaf x ≡ seen shapes p → m.can (m.kind x) trait.Hash ≡ true
  leaf_can_hash x is = leaves_can m shapes well p.shape (m.kind x) (kind_seen m shapes p r.value r.reads x is) trait.Hash tt (sym offered)

  -- of a leaf its own writes
  pub leaf_hashed : (x : L) → a_leaf x ≡ seen shapes p → hash_writes_at m shapes levels p ≡ finished_with (m.writes x)
  unfolding hash_writes
  leaf_hashed x is =
      ap (hash_writes m shapes p.shape) (value_of_seen r is)
      ∙ if_there (offers shapes p.shape trait.Hash && is_hashable (structure_at shapes p.shape)) (finished_with (m.writes x)) there

  -- of others those of the form, and then of the parts
  pub node_hashed : (form : Form) (ps : List (Place L)) → a_node form ps ≡ seen shapes p
      → hash_writes_at m shapes levels p ≡ writes_then (finished_with (form_writes m shapes p.shape form)) (hash_writes_of_places m shapes (levels - 1) ps)
  unfolding hash_writes
  node_hashed form ps is =
      let value = value_at shapes (levels - 1) in
      let before = finished_with (form_writes m shapes p.shape form) in
      let parts = part_shapes (structure_at shapes p.shape) form in
      ap (hash_writes m shapes p.shape) (value_of_seen r is)
      ∙ if_there (offers shapes p.shape trait.Hash && is_hashable (structure_at shapes p.shape)) (writes_then before (hash_writes_of_parts m shapes (parts (count (values_by value ps))) (values_by value ps))) there
      ∙ ap (λ ss. writes_then before (hash_writes_of_parts m shapes ss (values_by value ps)))
      (ap parts (count_values value ps) ∙ (shapes_of_seen shapes p form ps (sym is)).1)

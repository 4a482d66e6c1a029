-- What follows for the parts of a place that reads as a value of so many levels at most.
use Rattle.std.proofs.Common.{◌≡◌, ℕ, zero, suc, ◌-◌, ◌<◌, ◌≤◌, List, [], ◌∷◌, Option, None, Some, IsSomeAnd, All, length, slice_get, sym, ap, ◌∙◌, subst, arith}
use Rattle.std.proofs.lemmas.Option.{slice_get_within}
use Rattle.std.proofs.lemmas.List.Elements.{All-head, All-tail}
use Rattle.facet_causes.specs.Causes.{IsWellFormed}
use Rattle.facet_leaf.specs.LeafModel.{LeafModel}
use Rattle.facet_shape.specs.declared.shape.Shape.{Shape}
use Rattle.facet_trees.specs.Value.{Value, Values, leaf, node, none, more, depth, greatest_depth}
use Rattle.facet_trees.specs.declared.form.Form.{Form}
use Rattle.facet_values.proofs.LaidOut.{laid_out}
use Rattle.facet_values.proofs.OneReading.{one_value}
use Rattle.facet_values.proofs.SeenParts.{parts_are_known}
use Rattle.facet_values.proofs.ValueAt.{readable_value}
use Rattle.facet_values.proofs.WholePlaces.{lies_in_block, never_read}
use Rattle.facet_values.specs.Place.{Place}
use Rattle.facet_values.specs.Reading.{IsReadableWithin, ReadAll, Reads, value_at, value_by}
use Rattle.facet_values.specs.Seen.{Seen, a_node, no_value, seen}
use Rattle.facet_walk.specs.Look.{AreReadable, IsInside}

-- a value has a level or more
pub depth_positive : {L : Type 0} (v : Value L) → 1 ≤ depth v
depth_positive (leaf x) = omega arith
depth_positive (node form vs) = omega arith

-- the value of a place by what is seen there
pub value_step : {L : Type 0} (shapes : List Shape) (levels : ℕ) (p : Place L) → 1 ≤ levels → value_at shapes levels p ≡ value_by (value_at shapes (levels - 1)) (seen shapes p)
unfolding value_at
value_step shapes zero p h = absurd (omega arith)
value_step shapes (suc levels) p h =
    let e : levels ≡ suc levels - 1 = omega arith in ap (λ n. value_by (value_at shapes n) (seen shapes p)) e

module _ {L : Type 0} (m : LeafModel L) (shapes : List Shape) where
  inside_by : (p : Place L) (v : Value L) → Reads m shapes p v → IsInside p
  inside_by p v r = omega (arith, lies_in_block m shapes p v r)

  read_all_at : (levels : ℕ) (ps : List (Place L)) (vs : Values L) → ReadAll m shapes ps vs → greatest_depth vs ≤ levels
      → All (λ q. q.shape < length shapes) ps → (i : ℕ) → i < length ps
      → IsSomeAnd (slice_get ps i) (λ q. (q.shape < length shapes) × IsReadableWithin m shapes levels q)
  read_all_at levels [] vs r d known i h = absurd (omega arith)
  read_all_at levels (p ∷ ps) none r d known i h = absurd r
  read_all_at levels (p ∷ ps) (more v vs) r d known zero h =
      (All-head (λ (q : Place L). q.shape < length shapes) p ps known, record { value = v; reads = r.0; shallow = omega arith })
  read_all_at levels (p ∷ ps) (more v vs) r d known (suc i) h =
      read_all_at levels ps vs r.1 (omega arith) (All-tail (λ (q : Place L). q.shape < length shapes) p ps known) i (omega arith)

  parts_by : (levels : ℕ) (p : Place L) (v : Value L) (form : Form) (parts : List (Place L)) → Reads m shapes p v → depth v ≤ levels
      → seen shapes p ≡ a_node form parts → All (λ q. q.shape < length shapes) parts → (i : ℕ) → i < length parts
      → IsSomeAnd (slice_get parts i) (λ q. (q.shape < length shapes) × IsReadableWithin m shapes (levels - 1) q)
  parts_by levels p (leaf x) form parts r d e known i h = absurd (let f = r.1 in cc)
  parts_by levels p (node other vs) form parts r d e known i h =
      let f = r.2 in
      let same : r.0 ≡ parts = cc in
      read_all_at (levels - 1) parts vs (subst (λ ps. ReadAll m shapes ps vs) same r.3) (omega arith) known i h

  some_inside : (levels : ℕ) (o : Option (Place L)) → IsSomeAnd o (λ q. (q.shape < length shapes) × IsReadableWithin m shapes levels q) → IsSomeAnd o IsInside
  some_inside levels None h = absurd h
  some_inside levels (Some p) h = inside_by p h.1.value h.1.reads

-- a place that reads as a value of so many levels at most
module _ {L : Type 0} {m : LeafModel L} {shapes : List Shape} {levels : ℕ} {p : Place L} (r : IsReadableWithin m shapes levels p) where
  pub levels_positive : 1 ≤ levels
  levels_positive = omega (arith, depth_positive r.value, r.shallow)

  pub step : value_at shapes levels p ≡ value_by (value_at shapes (levels - 1)) (seen shapes p)
  step = value_step shapes levels p levels_positive

  pub something_seen : seen shapes p ≡ no_value → ⊥
  something_seen nothing = never_read m shapes p r.value nothing r.reads

  -- each part of it does, with a level less
  pub parts_readable : {form : Form} {parts : List (Place L)} → a_node form parts ≡ seen shapes p → All (λ q. q.shape < length shapes) parts
      → AreReadable m shapes (levels - 1) parts
  parts_readable {form} {parts} e known = record { each = parts_by m shapes levels p r.value form parts r.reads r.shallow (sym e) known }

-- several places that do
module _ {L : Type 0} {m : LeafModel L} {shapes : List Shape} {levels : ℕ} {ps : List (Place L)} (r : AreReadable m shapes levels ps) where
  both_at : (i : ℕ) {p : Place L} → slice_get ps i ≡ Some p → (p.shape < length shapes) × IsReadableWithin m shapes levels p
  both_at i {p} e = subst (λ o. IsSomeAnd o (λ (q : Place L). (q.shape < length shapes) × IsReadableWithin m shapes levels q)) e (r.each i (slice_get_within ps i p e))

  pub readable_at : (i : ℕ) {p : Place L} → slice_get ps i ≡ Some p → IsReadableWithin m shapes levels p
  readable_at i e = (both_at i e).1

  pub known_at : (i : ℕ) {p : Place L} → slice_get ps i ≡ Some p → p.shape < length shapes
  known_at i e = (both_at i e).0

  pub inside_at : (i : ℕ) → i < length ps → IsSomeAnd (slice_get ps i) IsInside
  inside_at i below = some_inside m shapes levels (slice_get ps i) (r.each i below)

-- the value of a place that reads as one
pub value_there : {L : Type 0} (m : LeafModel L) (shapes : List Shape) {levels : ℕ} {p : Place L} → IsReadableWithin m shapes levels p → (v : Value L) → Reads m shapes p v → value_at shapes levels p ≡ v
value_there m shapes {levels} {p} readable v r = readable_value m shapes levels p readable ∙ one_value m shapes p readable.value v readable.reads r

-- what a place is seen as gives the depth and the leaves of its value
module _ {L : Type 0} {m : LeafModel L} {shapes : List Shape} {levels : ℕ} {p : Place L} (r : IsReadableWithin m shapes levels p) where
  pub value_of_seen : {x : Seen L} → x ≡ seen shapes p → value_at shapes levels p ≡ value_by (value_at shapes (levels - 1)) x
  value_of_seen e = step r ∙ ap (value_by (value_at shapes (levels - 1))) (sym e)

  -- the parts that are seen are of shapes that are there, and read as values with a level less
  pub parts_seen : IsWellFormed m shapes → p.shape < length shapes → {form : Form} {parts : List (Place L)} → a_node form parts ≡ seen shapes p → AreReadable m shapes (levels - 1) parts
  parts_seen well sealed {form} {parts} e =
      parts_readable r e (parts_are_known shapes p (laid_out m shapes well p.shape sealed) form parts (sym e))

-- How a place comes to read as a value.
use Rattle.std.proofs.Common.{◌≡◌, ℕ, suc, ◌-◌, ◌<◌, ◌≤◌, List, [], ◌∷◌, All, Option, None, Some, IsSomeAnd, length, slice_get, sym, subst, arith}
use Rattle.std.proofs.lemmas.List.Elements.{All-weaker}
use Rattle.facet_causes.specs.Causes.{IsWellFormed}
use Rattle.facet_leaf.specs.LeafModel.{LeafModel}
use Rattle.facet_shape.specs.declared.shape.Shape.{Shape}
use Rattle.facet_trees.specs.Ascending.{IsInOrder}
use Rattle.facet_trees.specs.Structure.{structure_at}
use Rattle.facet_trees.specs.Value.{Value, Values, leaf, node, none, more, depth, greatest_depth}
use Rattle.facet_trees.specs.declared.form.Form.{Form}
use Rattle.facet_values.proofs.LaidOut.{laid_out}
use Rattle.facet_values.proofs.PartsInBlocks.{parts_lie}
use Rattle.facet_values.proofs.SeenParts.{parts_are_known}
use Rattle.facet_values.proofs.ValueAt.{values_found}
use Rattle.facet_values.specs.Place.{LiesInBlock, Place}
use Rattle.facet_values.specs.Reading.{IsReadableWithin, IsWhole, ReadAll, Reads, value_at, values_by}
use Rattle.facet_values.specs.Seen.{a_leaf, a_node, seen}
use Rattle.facet_walk.specs.Look.{AreReadable, IsInside}

module _ {L : Type 0} (m : LeafModel L) (shapes : List Shape) where
  abbrev HoldsWithin : ℕ → Place L → Type 0
  HoldsWithin levels q = (q.shape < length shapes) × IsReadableWithin m shapes levels q

  -- what holds a value of so many levels at most holds one of more at most
  pub readable_more : (fewer levels : ℕ) (p : Place L) → fewer ≤ levels → IsReadableWithin m shapes fewer p → IsReadableWithin m shapes levels p
  readable_more fewer levels p most r = record { value = r.value; reads = r.reads; shallow = omega (arith, r.shallow, most) }

  holds_more : (fewer levels : ℕ) → fewer ≤ levels → (o : Option (Place L)) → IsSomeAnd o (HoldsWithin fewer) → IsSomeAnd o (HoldsWithin levels)
  holds_more fewer levels most None h = h
  holds_more fewer levels most (Some p) h = (h.0, readable_more fewer levels p most h.1)

  pub are_readable_more : (fewer levels : ℕ) (ps : List (Place L)) → fewer ≤ levels → AreReadable m shapes fewer ps → AreReadable m shapes levels ps
  are_readable_more fewer levels ps most r = record { each = λ i below. holds_more fewer levels most (slice_get ps i) (r.each i below) }

  -- the values of places that each read as one
  record ReadBy (levels : ℕ) (ps : List (Place L)) : Type 0 where
    values : Values L
    reads : ReadAll m shapes ps values
    shallow : greatest_depth values ≤ levels

  values_of : (levels : ℕ) (ps : List (Place L)) → ((i : ℕ) → i < length ps → IsSomeAnd (slice_get ps i) (HoldsWithin levels)) → ReadBy levels ps
  values_of levels [] each = record { values = none; reads = tt; shallow = omega arith }
  values_of levels (p ∷ ps) each =
      let first : HoldsWithin levels p = each 0 (omega arith) in
      let rest = values_of levels ps (λ i below. each (suc i) (omega (arith, below))) in
      record { values = more first.1.value rest.values; reads = (first.1.reads, rest.reads); shallow = omega (arith, first.1.shallow, rest.shallow) }

  -- a place where a leaf is seen
  pub readable_leaf : (levels : ℕ) (p : Place L) (x : L) → 1 ≤ levels → IsWhole m shapes p → a_leaf x ≡ seen shapes p → IsReadableWithin m shapes levels p
  readable_leaf levels p x some whole is = record { value = leaf x; reads = (whole, sym is); shallow = omega arith }

  -- a place where a node is seen, of which the parts read as values that are in order
  pub readable_node : (levels : ℕ) (p : Place L) (form : Form) (ps : List (Place L)) → 1 ≤ levels → levels ≤ 100 → IsWhole m shapes p → a_node form ps ≡ seen shapes p
      → AreReadable m shapes (levels - 1) ps → IsInOrder m shapes (structure_at shapes p.shape) (values_by (value_at shapes 100) ps) → IsReadableWithin m shapes levels p
  readable_node levels p form ps some most whole is parts order =
      let all = values_of (levels - 1) ps parts.each in
      let same = values_found m shapes 100 ps all.values all.reads (omega (arith, all.shallow, most)) in
      record {
        value = node form all.values;
        reads = (ps, whole, sym is, all.reads, subst (IsInOrder m shapes (structure_at shapes p.shape)) same order);
        shallow = omega (arith, all.shallow, some);
      }

  in_order_by : (p : Place L) (form : Form) (ps : List (Place L)) → seen shapes p ≡ a_node form ps → (v : Value L) → Reads m shapes p v → depth v ≤ 100
      → IsInOrder m shapes (structure_at shapes p.shape) (values_by (value_at shapes 100) ps)
  in_order_by p form ps is (leaf x) reads most = absurd (let other = reads.1 in cc)
  in_order_by p form ps is (node other vs) reads most =
      let other_parts = reads.2 in
      let same : reads.0 ≡ ps = cc in
      let found = values_found m shapes 100 ps vs (subst (λ these. ReadAll m shapes these vs) same reads.3) (omega (arith, most)) in
      subst (IsInOrder m shapes (structure_at shapes p.shape)) (sym found) reads.4

  -- where a place reads as a node, the values of its parts are in order
  pub parts_in_order : (levels : ℕ) (p : Place L) (form : Form) (ps : List (Place L)) → levels ≤ 100 → a_node form ps ≡ seen shapes p → IsReadableWithin m shapes levels p
      → IsInOrder m shapes (structure_at shapes p.shape) (values_by (value_at shapes 100) ps)
  parts_in_order levels p form ps most is r = in_order_by p form ps (sym is) r.value r.reads (omega (arith, r.shallow, most))

  -- the parts that are seen of a place that is whole are of shapes that are there, and lie in their blocks
  pub parts_known : IsWellFormed m shapes → (p : Place L) → p.shape < length shapes → (form : Form) (ps : List (Place L)) → a_node form ps ≡ seen shapes p
      → All (λ q. q.shape < length shapes) ps
  parts_known well p sealed form ps is = parts_are_known shapes p (laid_out m shapes well p.shape sealed) form ps (sym is)

  pub parts_inside : IsWellFormed m shapes → (p : Place L) → p.shape < length shapes → IsWhole m shapes p → (form : Form) (ps : List (Place L)) → a_node form ps ≡ seen shapes p
      → All IsInside ps
  parts_inside well p sealed whole form ps is =
      All-weaker (LiesInBlock shapes) IsInside (λ q lies. omega (arith, lies)) ps (parts_lie shapes m p (laid_out m shapes well p.shape sealed) whole form ps (sym is))

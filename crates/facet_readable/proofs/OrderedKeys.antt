-- The values of parts are in order where the keys that are neighbours ascend.
use Rattle.std.proofs.Common.{◌≡◌, ℕ, ◌<◌, List, Some, IsSomeAnd, length, slice_get, sym, ◌∙◌, subst, arith}
use Rattle.facet_causes.specs.Causes.{IsWellFormed}
use Rattle.facet_leaf.specs.LeafLaws.{LeafLaws}
use Rattle.facet_leaf.specs.LeafModel.{LeafModel}
use Rattle.facet_shape.specs.declared.shape.Shape.{Shape}
use Rattle.facet_trees.proofs.AnswerChains.{chain_less}
use Rattle.facet_trees.proofs.OrderLaws.{ordering_chain}
use Rattle.facet_trees.specs.Ascending.{IsInOrder, IsLess}
use Rattle.facet_trees.specs.Fits.{Fits}
use Rattle.facet_trees.specs.Order.{Answer, by_total, ordering}
use Rattle.facet_trees.specs.Structure.{structure_at}
use Rattle.facet_trees.specs.declared.form.Form.{Form}
use Rattle.facet_values.proofs.FittingValues.{reading_fits}
use Rattle.facet_values.proofs.ValueAt.{readable_value}
use Rattle.facet_values.proofs.WholePlaces.{lies_in_block}
use Rattle.facet_values.specs.Place.{Place, place_in}
use Rattle.facet_values.specs.Reading.{IsReadable, value_at, values_by}
use Rattle.facet_values.specs.Seen.{a_node, seen}
use Rattle.facet_walk.proofs.ReadableParts.{known_at, readable_at}
use Rattle.facet_walk.specs.Look.{AreReadable, IsInside}
use Rattle.facet_readable.specs.KeyPlaces.{HoldsLess, key_places}
use Rattle.facet_readable.proofs.KeyLookups.{of_parts}
use Rattle.facet_readable.proofs.KeyOrder.{IsOrderOf, order_of_seen}
use Rattle.facet_readable.proofs.Neighbours.{NeighboursAscend, all_ascend, found_below, two_ascend}

module _ {L : Type 0} (m : LeafModel L) (shapes : List Shape) where
  -- what a comparison by the shape of the first answers of two places of one shape
  pub answer_of_places : (p q : Place L) (answer : Answer) → p.shape ≡ q.shape → answer ≡ ordering m shapes by_total p.shape (value_at shapes 100 p) (value_at shapes 100 (place_in p.shape q.block q.offset))
      → answer ≡ ordering m shapes by_total p.shape (value_at shapes 100 p) (value_at shapes 100 q)
  answer_of_places p q answer same is =
      subst (λ s. answer ≡ ordering m shapes by_total p.shape (value_at shapes 100 p) (value_at shapes 100 (place_in s q.block q.offset))) same is

-- the places of keys, where each part reads as a value
module _ {L : Type 0} (m : LeafModel L) (shapes : List Shape) (form : Form) (ps : List (Place L)) (parts : AreReadable m shapes 100 ps) where
  pub key_readable : (i : ℕ) (p : Place L) → slice_get (key_places form ps) i ≡ Some p → IsReadable m shapes p
  key_readable i p is = of_parts (IsReadable m shapes) ps (λ j q e. readable_at parts j e) form i p is

  pub key_known : (i : ℕ) (p : Place L) → slice_get (key_places form ps) i ≡ Some p → p.shape < length shapes
  key_known i p is = of_parts (λ q. q.shape < length shapes) ps (λ j q e. known_at parts j e) form i p is

  pub key_inside : (i : ℕ) → i < length (key_places form ps) → IsSomeAnd (slice_get (key_places form ps) i) IsInside
  key_inside i below =
      let found = found_below (key_places form ps) i below in
      let r = key_readable i found.item found.is in
      let inside : IsInside found.item = omega (arith, lies_in_block m shapes found.item r.value r.reads) in
      subst (λ o. IsSomeAnd o IsInside) (sym found.is) inside

  module _ (place : Place L) (seen_there : a_node form ps ≡ seen shapes place) where
    here : IsOrderOf m shapes (structure_at shapes place.shape) form ps (value_at shapes 100)
    here = order_of_seen m shapes place form ps (value_at shapes 100) seen_there

    abbrev keys : List (Place L)
    keys = key_places form ps

    -- two keys are compared by one shape
    pub same_key : (i j : ℕ) (p q : Place L) → slice_get keys i ≡ Some p → slice_get keys j ≡ Some q → p.shape ≡ q.shape
    same_key i j p q e f = here.have.each i p e ∙ sym (here.have.each j q f)

    module _ (laws : LeafLaws m) (well : IsWellFormed m shapes) where
      fits : (i : ℕ) (p : Place L) → slice_get keys i ≡ Some p → Fits m shapes here.key (value_at shapes 100 p)
      fits i p is =
          let r = key_readable i p is in
          let by_place = reading_fits m shapes p r.value r.reads in
          let by_value = subst (Fits m shapes p.shape) (sym (readable_value m shapes 100 p r)) by_place in
          subst (λ s. Fits m shapes s (value_at shapes 100 p)) (here.have.each i p is) by_value

      chain : (i j k : ℕ) (p q r : Place L) → slice_get keys i ≡ Some p → slice_get keys j ≡ Some q → slice_get keys k ≡ Some r
          → IsLess m shapes here.key (value_at shapes 100 p) (value_at shapes 100 q) → IsLess m shapes here.key (value_at shapes 100 q) (value_at shapes 100 r)
          → IsLess m shapes here.key (value_at shapes 100 p) (value_at shapes 100 r)
      chain i j k p q r at_i at_j at_k first second =
          let u = value_at shapes 100 p in
          let v = value_at shapes 100 q in
          let w = value_at shapes 100 r in
          chain_less (ordering m shapes by_total here.key u v) (ordering m shapes by_total here.key v w) (ordering m shapes by_total here.key u w)
          (ordering_chain m laws shapes well here.key u v w (fits i p at_i) (fits j q at_j) (fits k r at_k)) first second

      -- keys of which neighbours ascend are in order
      pub in_order : NeighboursAscend (HoldsLess m shapes) keys (length keys) → IsInOrder m shapes (structure_at shapes place.shape) (values_by (value_at shapes 100) ps)
      in_order neighbours =
          here.order.1
          (all_ascend (HoldsLess m shapes) (IsLess m shapes here.key) (value_at shapes 100) keys
          (λ i p q is less. subst (λ s. IsLess m shapes s (value_at shapes 100 p) (value_at shapes 100 q)) (here.have.each i p is) less)
          chain neighbours)

    -- in keys that are in order each is less than one behind it
    pub in_order_before : IsInOrder m shapes (structure_at shapes place.shape) (values_by (value_at shapes 100) ps) → (i j : ℕ) (p q : Place L) → i < j → slice_get keys i ≡ Some p → slice_get keys j ≡ Some q → HoldsLess m shapes p q
    in_order_before order i j p q before e f =
        let less = two_ascend (HoldsLess m shapes) (IsLess m shapes here.key) (value_at shapes 100) keys (here.order.0 order) i j p q before e f in
        subst (λ s. IsLess m shapes s (value_at shapes 100 p) (value_at shapes 100 q)) (sym (here.have.each i p e)) less

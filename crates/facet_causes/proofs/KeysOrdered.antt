-- From a key of a shape that meets no cause only shapes with equality and both orders are reached.
use Rattle.std.proofs.Common.{◌≡◌, ℕ, ◌||◌, ◌&&◌, Bool, true, false, not, List, All, Option, None, Some, slice_get, refl, sym, ◌∙◌, inl, inr}
use Rattle.std.specs.Option.{option_map_or}
use Rattle.std.proofs.lemmas.Bool.{and_cases, and_parts, false_from_ne_true, not-false, or_parts, or_right, true≢false}
use Rattle.facet_base.specs.declared.characteristic.Characteristic.TheVariants as trait
use Rattle.facet_caps.specs.VTableErased.{capabilities_of}
use Rattle.facet_caps.specs.declared.vtable.VTableDirect.{VTableDirect}
use Rattle.facet_causes.specs.Causes.{IsWellFormed}
use Rattle.facet_causes.specs.KeyNotOrd.{keys_of}
use Rattle.facet_causes.specs.OrderedKeys.{IsOrdered, KeysAreOrdered}
use Rattle.facet_causes.specs.Reading.{OfShape, has_order, indices, kind_in, lacks_order, layout_at, parts_at}
use Rattle.facet_causes.specs.declared.cause.SealCause.TheVariants as cause
use Rattle.facet_causes.proofs.Found.{any_index}
use Rattle.facet_causes.proofs.NoneMet.{each_shape, none_met}
use Rattle.facet_graph.specs.Reach.{ReachesBad}
use Rattle.facet_leaf.specs.LeafModel.{LeafModel}
use Rattle.facet_outline.specs.BadLayout.{has_values}
use Rattle.facet_outline.specs.Mismatch.{has_order_alone, is_mismatched}
use Rattle.facet_shape.specs.Capability.{can}
use Rattle.facet_shape.specs.declared.shape.Shape.{Shape}

-- a test that is met where another isn't is met where that is
both_met : (a b : Bool) → (a && not b) ≡ false → a ≡ true → b ≡ true
both_met a b none met = elim (and_cases a (not b) none) [
  | inl fails ↦ absurd (true≢false (sym met ∙ fails))
  | inr other ↦ not-false b other
]

-- an order doesn't stand alone
not_alone : (v : VTableDirect) → has_order_alone v ≡ false → v.cmp ≡ true → (v.partial_eq ≡ true) × (v.partial_cmp ≡ true)
not_alone v none cmp =
    let both = or_parts ((v.partial_cmp || v.cmp) && not v.partial_eq) (v.cmp && not v.partial_cmp) none in
    (both_met (v.partial_cmp || v.cmp) v.partial_eq both.0 (or_right v.partial_cmp v.cmp cmp), both_met v.cmp v.partial_cmp both.1 cmp)

module _ {L : Type 0} (m : LeafModel L) (shapes : List Shape) (well : IsWellFormed m shapes) where
  orders : (s : ℕ) (shape : Shape) → slice_get shapes s ≡ Some shape → has_order_alone (capabilities_of shape.vtable) ≡ false
  unfolding is_mismatched
  orders s shape is = (or_parts _ _ (false_from_ne_true (is_mismatched (layout_at shapes) shape) (none_met m shapes well cause.Mismatch s shape is))).1

  ordered : (part : ℕ) → lacks_order shapes part ≡ false → OfShape (IsOrdered shapes) (slice_get shapes part)
  unfolding lacks_order
  ordered part has = go (slice_get shapes part) refl has
    where
      go : (o : Option Shape) → slice_get shapes part ≡ o → not (option_map_or (has_order shapes) o false) ≡ false → OfShape (IsOrdered shapes) o
      go None is none = absurd (true≢false none)
      go (Some shape) is has =
          let both = and_parts (has_values (kind_in shapes shape)) (can shape trait.Ord) (not-false (has_order shapes shape) has) in
          let others = not_alone (capabilities_of shape.vtable) (orders part shape is) both.1 in
          record { values = both.0; partial_eq = others.0; partial_cmp = others.1; cmp = both.1 }

  keys_of_shape : (s : ℕ) (shape : Shape) → slice_get shapes s ≡ Some shape → KeysAreOrdered shapes shape
  keys_of_shape s shape is i key below part reached =
      ordered part (false_from_ne_true (lacks_order shapes part) (λ bad. none_met m shapes well cause.KeyNotOrd s shape is
      (any_index (ReachesBad (parts_at shapes) (lacks_order shapes)) (indices (keys_of shapes shape)) key i below (record { node = part; reached = reached; is_bad = bad }))))

  -- the keys of each shape are ordered, with all parts of theirs
  pub keys_are_ordered : All (KeysAreOrdered shapes) shapes
  keys_are_ordered = each_shape shapes (KeysAreOrdered shapes) keys_of_shape

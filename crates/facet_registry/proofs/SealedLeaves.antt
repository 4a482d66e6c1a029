-- What a sealed shape of leaves has: a byte for them, and no capability beyond theirs.
use Rattle.std.proofs.Common.{◌≡◌, ℕ, ◌<◌, ◌||◌, ◌&&◌, Bool, true, false, not, List, slice_get, length, Option, None, Some, refl, sym, ap, ◌∙◌, subst, arith, unwrap_or}
use Rattle.std.specs.Option.{option_map_or}
use Rattle.std.proofs.lemmas.Bool.{and_parts, ltb-true, not-false}
use Rattle.facet_base.specs.ShapeLayout.{size_in_bytes}
use Rattle.facet_base.specs.declared.characteristic.Characteristic.{Characteristic}
use Rattle.facet_base.specs.declared.characteristic.Characteristic.TheVariants as trait
use Rattle.facet_base.specs.declared.layout.ShapeId.{ShapeId}
use Rattle.facet_base.specs.declared.layout.ShapeLayout.{ShapeLayout}
use Rattle.facet_base.specs.declared.layout.ShapeLayout.TheVariants as layout
use Rattle.facet_base.specs.declared.scalar_type.ScalarType.{ScalarType}
use Rattle.facet_caps.specs.TypeOps.{operations_of}
use Rattle.facet_caps.specs.VTableErased.{capabilities_of}
use Rattle.facet_caps.specs.declared.type_ops.TypeOps.{TypeOps}
use Rattle.facet_caps.specs.declared.vtable.VTableDirect.{VTableDirect}
use Rattle.facet_causes.specs.Causes.{IsWellFormed, Meets, ShapeMeets}
use Rattle.facet_causes.specs.Reading.{OfShape, element_of, kind_in}
use Rattle.facet_causes.specs.declared.cause.SealCause.TheVariants as cause
use Rattle.facet_desc.specs.declared.ty.Ty.{Ty}
use Rattle.facet_leaf.specs.LeafModel.{LeafModel}
use Rattle.facet_outline.specs.BadLayout.{has_bytes, is_leaf_without_bytes}
use Rattle.facet_outline.specs.Offered.{has_no_more, has_no_more_comparisons, has_no_more_conversions, has_no_more_operations, has_no_more_texts, has_unoffered_member, has_unoffered_of_kind, implies, offered_capabilities, offered_operations}
use Rattle.facet_outline.specs.ValueKind.{kind_of}
use Rattle.facet_outline.specs.declared.value_kind.ValueKind.{ValueKind}
use Rattle.facet_outline.specs.declared.value_kind.ValueKind.TheVariants as kind
use Rattle.facet_shape.specs.Capability.{can}
use Rattle.facet_shape.specs.declared.shape.Shape.{Shape}
use Rattle.facet_registry.specs.WellFormed.{HoldsLeaves}

implied : (a b : Bool) → implies a b ≡ true → a ≡ true → b ≡ true
implied true b is here = is
implied false b is here = absurd (cc)

neither : (a b : Bool) → (a || b) ≡ false → (a ≡ false) × (b ≡ false)
neither true b is = absurd (cc)
neither false b is = (refl, is)

not_met : (b : Bool) → (b ≡ true → ⊥) → b ≡ false
not_met true none = absurd (none refl)
not_met false none = refl

-- a leaf that takes no byte is none that is sealed
some_bytes : (l : ShapeLayout) → not (has_bytes l) ≡ false → 0 < unwrap_or (size_in_bytes l) 0
some_bytes (layout.Sized l) is = omega (arith, ltb-true 0 l.size (not-false _ is))
some_bytes layout.Unsized is = absurd (cc)

module _ {L : Type 0} (m : LeafModel L) (k : ScalarType) where
  -- an operation that the type has is one that its leaves have
  operation_of_leaf : (ops : Option TypeOps) → option_map_or (λ o. not (has_no_more_operations (operations_of o) (offered_operations m (kind.Leaf k)))) ops false ≡ false
      → ((option_map_or (λ o. (operations_of o).default_in_place) ops false ≡ true → m.can k trait.Default ≡ true)
      × (option_map_or (λ o. (operations_of o).clone_into) ops false ≡ true → m.can k trait.Clone ≡ true))
  operation_of_leaf None is = (λ here. absurd (cc), λ here. absurd (cc))
  operation_of_leaf (Some o) is =
      let has = operations_of o in
      let all = and_parts _ _ (not-false _ is) in
      let more = and_parts _ _ all.0 in
      (implied has.default_in_place (m.can k trait.Default) more.0, implied has.clone_into (m.can k trait.Clone) more.1)

  module _ (s : Shape) (is : has_unoffered_of_kind m (kind.Leaf k) s.ty (capabilities_of s.vtable) s.type_ops ≡ false) where
    abbrev has : VTableDirect
    has = capabilities_of s.vtable

    abbrev offered : VTableDirect
    offered = offered_capabilities m (kind.Leaf k) s.ty

    no_more : has_no_more has offered ≡ true
    no_more = not-false (has_no_more has offered) (neither _ _ is).0

    no_more_of_two : (has_no_more_texts has offered ≡ true) × (has_no_more_comparisons has offered ≡ true)
    no_more_of_two = and_parts _ _ (and_parts _ _ no_more).0

    operations_of_leaf : (option_map_or (λ o. (operations_of o).default_in_place) s.type_ops false ≡ true → m.can k trait.Default ≡ true)
        × (option_map_or (λ o. (operations_of o).clone_into) s.type_ops false ≡ true → m.can k trait.Clone ≡ true)
    operations_of_leaf = operation_of_leaf s.type_ops (neither _ _ is).1

    capability_of_leaf : (c : Characteristic) → can s c ≡ true → m.can k c ≡ true
    capability_of_leaf trait.Clone here = operations_of_leaf.1 here
    capability_of_leaf trait.Display here = implied has.display (m.can k trait.Display) (and_parts _ _ (and_parts _ _ (and_parts _ _ no_more_of_two.0).0).0).0 here
    capability_of_leaf trait.Debug here = implied has.debug (m.can k trait.Debug) (and_parts _ _ (and_parts _ _ (and_parts _ _ no_more_of_two.0).0).0).1 here
    capability_of_leaf trait.PartialEq here = implied has.partial_eq (m.can k trait.PartialEq) (and_parts _ _ (and_parts _ _ (and_parts _ _ no_more_of_two.1).0).0).0 here
    capability_of_leaf trait.PartialOrd here = implied has.partial_cmp (m.can k trait.PartialOrd) (and_parts _ _ (and_parts _ _ (and_parts _ _ no_more_of_two.1).0).0).1 here
    capability_of_leaf trait.Ord here = implied has.cmp (m.can k trait.Ord) (and_parts _ _ (and_parts _ _ no_more_of_two.1).0).1 here
    capability_of_leaf trait.Hash here = implied has.hash (m.can k trait.Hash) (and_parts _ _ no_more_of_two.1).1 here
    capability_of_leaf trait.Default here = operations_of_leaf.0 here
    capability_of_leaf trait.FromStr here = implied has.parse (m.can k trait.FromStr) (and_parts _ _ (and_parts _ _ no_more_of_two.0).0).1 here

module _ {L : Type 0} (m : LeafModel L) (shapes : List Shape) (well : IsWellFormed m shapes) (s : ℕ) (below : s < length shapes) where
  abbrev MeetsNone : Option Shape → Type 0
  MeetsNone found = (OfShape (ShapeMeets m shapes cause.ZeroSizedScalar s) found → ⊥) × (OfShape (ShapeMeets m shapes cause.CapabilityMissing s) found → ⊥)

  room_found : (found : Option Shape) → MeetsNone found → (k : ScalarType) → option_map_or (kind_in shapes) found kind.NoValue ≡ kind.Leaf k
      → 0 < option_map_or (λ shape. unwrap_or (size_in_bytes shape.layout) 0) found 0
  room_found None none k same = absurd (cc)
  room_found (Some shape) none k same =
      some_bytes shape.layout (subst (λ v. is_leaf_without_bytes v shape.layout ≡ false) same (not_met _ none.0))

  capable_found : (found : Option Shape) → MeetsNone found → (k : ScalarType) (c : Characteristic) → option_map_or (kind_in shapes) found kind.NoValue ≡ kind.Leaf k
      → option_map_or (λ shape. can shape c) found false ≡ true → m.can k c ≡ true
  unfolding has_unoffered_member
  capable_found None none k c same here = absurd (cc)
  capable_found (Some shape) none k c same here =
      capability_of_leaf m k shape (subst (λ v. has_unoffered_of_kind m v shape.ty (capabilities_of shape.vtable) shape.type_ops ≡ false) same (not_met _ none.1)) c here

  found_none : MeetsNone (slice_get shapes s)
  found_none = (well cause.ZeroSizedScalar s below, well cause.CapabilityMissing s below)

  -- a sealed shape of leaves has a byte for them, and offers only what they can do
  pub sealed_leaves : HoldsLeaves m shapes s
  sealed_leaves = record { room = room_found (slice_get shapes s) found_none; capable = capable_found (slice_get shapes s) found_none }

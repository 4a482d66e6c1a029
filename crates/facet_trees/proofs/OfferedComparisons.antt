-- What shapes that are well formed offer: their leaves have it too, and where all that is reached from one offers a comparison, it is answered.
use Rattle.std.proofs.Common.{◌≡◌, ℕ, ◌&&◌, ◌||◌, Bool, true, false, not, List, [], ◌∷◌, Contains, Option, None, Some, slice_get, refl, sym, ◌∙◌, subst}
use Rattle.std.specs.List.{list_all}
use Rattle.std.specs.Option.{option_map_or}
use Rattle.std.proofs.lemmas.Bool.{and_from, and_parts, false_from_ne_true, false≢true, or_parts}
use Rattle.std.proofs.lemmas.List.Elements.{All-contains_itself}
use Rattle.std.proofs.lemmas.List.Sums.{list_all-from_AllPass}
use Rattle.std.proofs.lemmas.Option.{slice_get_within}
use Rattle.facet_base.proofs.Lists.{All_at}
use Rattle.facet_base.specs.declared.characteristic.Characteristic.{Characteristic}
use Rattle.facet_base.specs.declared.characteristic.Characteristic.TheVariants as trait
use Rattle.facet_base.specs.declared.scalar_type.ScalarType.{ScalarType}
use Rattle.facet_caps.specs.VTableErased.{capabilities_of}
use Rattle.facet_causes.specs.Causes.{IsWellFormed, ShapeMeets}
use Rattle.facet_causes.specs.OfferedMembers.{AreOffered, MembersAreOffered}
use Rattle.facet_causes.specs.Reading.{OfShape, element_of, indices, kind_in, layout_at, parts_of}
use Rattle.facet_causes.specs.declared.cause.SealCause.TheVariants as cause
use Rattle.facet_causes.proofs.MembersOffered.{members_are_offered}
use Rattle.facet_leaf.specs.LeafLaws.{Have}
use Rattle.facet_leaf.specs.LeafModel.{LeafModel}
use Rattle.facet_outline.specs.BadLayout.{has_values}
use Rattle.facet_outline.specs.Mismatch.{has_order_alone, is_mismatched}
use Rattle.facet_outline.specs.Offered.{offered_capabilities}
use Rattle.facet_outline.specs.Part.{parts}
use Rattle.facet_outline.specs.declared.value_kind.ValueKind.{ValueKind}
use Rattle.facet_outline.specs.declared.value_kind.ValueKind.TheVariants as kind
use Rattle.facet_registry.specs.Registry.{offers}
use Rattle.facet_shape.specs.Capability.{can}
use Rattle.facet_shape.specs.declared.shape.Shape.{Shape}
use Rattle.facet_trees.specs.Answered.{AllOffer, is_answered, is_comparable}
use Rattle.facet_trees.specs.Fits.{Fits, HasForm}
use Rattle.facet_trees.specs.Order.{Which, by_partial, by_total, capability_of}
use Rattle.facet_trees.specs.Structure.{no_values, scalar, structure_at, structure_of_kind}
use Rattle.facet_trees.specs.Value.{Value, leaf, node}
use Rattle.facet_trees.proofs.PartShapes.{contains_index, own_offer}

-- equality, both orders and the hash
abbrev pub IsAsked : Characteristic → Type 0
IsAsked trait.PartialEq = Unit {0}
IsAsked trait.PartialOrd = Unit {0}
IsAsked trait.Ord = Unit {0}
IsAsked trait.Hash = Unit {0}
IsAsked _ = ⊥

-- a total order comes with a partial one, and that with equality
comes_with : (equal partial total : Bool) → (((partial || total) && not equal) || (total && not partial)) ≡ false → (total ≡ true → partial ≡ true) × (partial ≡ true → equal ≡ true)
comes_with true true total none = (λ is. refl, λ is. refl)
comes_with true false true none = absurd (cc)
comes_with true false false none = (λ is. is, λ is. refl)
comes_with false true total none = absurd (cc)
comes_with false false true none = absurd (cc)
comes_with false false false none = (λ is. is, λ is. is)

same_kind : (k l : ScalarType) → scalar k ≡ scalar l → k ≡ l
same_kind k l same = cc

-- the values of a kind, of which a capability is offered, can be compared if their elements can
module _ {L : Type 0} (m : LeafModel L) (shapes : List Shape) where
  abbrev Offers : ValueKind → Shape → Type 0
  Offers k shape = has_values k ≡ true → AreOffered (capabilities_of shape.vtable) (offered_capabilities m k shape.ty)

  leaf_can : (k : ScalarType) (shape : Shape) → Offers (kind.Leaf k) shape → (c : Characteristic) → IsAsked c → can shape c ≡ true → m.can k c ≡ true
  leaf_can k shape offered trait.PartialEq is can = (offered refl).partial_eq can
  leaf_can k shape offered trait.PartialOrd is can = (offered refl).partial_cmp can
  leaf_can k shape offered trait.Ord is can = (offered refl).cmp can
  leaf_can k shape offered trait.Hash is can = (offered refl).hash can
  leaf_can k shape offered _ is can = absurd is

  not_of_map : (shape : Shape) → Offers kind.Map shape → (c : Characteristic) → IsAsked c → can shape c ≡ true → false ≡ true
  not_of_map shape offered trait.PartialEq is can = (offered refl).partial_eq can
  not_of_map shape offered trait.PartialOrd is can = (offered refl).partial_cmp can
  not_of_map shape offered trait.Ord is can = (offered refl).cmp can
  not_of_map shape offered trait.Hash is can = (offered refl).hash can
  not_of_map shape offered _ is can = absurd is

  not_of_set : (shape : Shape) → Offers kind.Set shape → (c : Characteristic) → IsAsked c → can shape c ≡ true → false ≡ true
  not_of_set shape offered trait.PartialEq is can = (offered refl).partial_eq can
  not_of_set shape offered trait.PartialOrd is can = (offered refl).partial_cmp can
  not_of_set shape offered trait.Ord is can = (offered refl).cmp can
  not_of_set shape offered trait.Hash is can = (offered refl).hash can
  not_of_set shape offered _ is can = absurd is

  comparable : (k : ValueKind) (shape : Shape) → Offers k shape → (c : Characteristic) → IsAsked c → can shape c ≡ true
      → list_all (λ id. offers shapes id.0 c) (parts (element_of shapes shape.def) shape) ≡ true → (structure_of_kind shapes k shape ≡ no_values → ⊥)
      → is_comparable shapes (structure_of_kind shapes k shape) c ≡ true
  comparable kind.Unit shape offered c is can each some = refl
  comparable (kind.Leaf _) shape offered c is can each some = refl
  comparable kind.Struct shape offered c is can each some = refl
  comparable kind.Array shape offered c is can each some = refl
  comparable kind.Enum shape offered c is can each some = refl
  comparable kind.Option shape offered c is can each some = refl
  comparable kind.Result shape offered c is can each some = refl
  comparable kind.List shape offered c is can each some = each
  comparable kind.BoxedSlice shape offered c is can each some = each
  comparable kind.Map shape offered c is can each some = absurd (false≢true (not_of_map shape offered c is can))
  comparable kind.Set shape offered c is can each some = absurd (false≢true (not_of_set shape offered c is can))
  comparable kind.Box shape offered c is can each some = refl
  comparable kind.NoValue shape offered c is can each some = absurd (some refl)

  kind_of_leaf : (k : ValueKind) (shape : Shape) (l : ScalarType) → structure_of_kind shapes k shape ≡ scalar l → k ≡ kind.Leaf l
  kind_of_leaf (kind.Leaf _) shape l is = cc
  kind_of_leaf kind.Unit shape l is = absurd (cc)
  kind_of_leaf kind.Struct shape l is = absurd (cc)
  kind_of_leaf kind.Array shape l is = absurd (cc)
  kind_of_leaf kind.Enum shape l is = absurd (cc)
  kind_of_leaf kind.Option shape l is = absurd (cc)
  kind_of_leaf kind.Result shape l is = absurd (cc)
  kind_of_leaf kind.List shape l is = absurd (cc)
  kind_of_leaf kind.BoxedSlice shape l is = absurd (cc)
  kind_of_leaf kind.Map shape l is = absurd (cc)
  kind_of_leaf kind.Set shape l is = absurd (cc)
  kind_of_leaf kind.Box shape l is = absurd (cc)
  kind_of_leaf kind.NoValue shape l is = absurd (cc)

  -- a tree that fits has a shape with values
  pub some_fits : (s : ℕ) (v : Value L) → Fits m shapes s v → structure_at shapes s ≡ no_values → ⊥
  some_fits s (leaf x) fits none = let is = fits in absurd (cc)
  some_fits s (node form vs) fits none = subst (λ structure. HasForm structure form) none fits.0

module _ {L : Type 0} (m : LeafModel L) (shapes : List Shape) (well : IsWellFormed m shapes) where
  offered_at : (s : ℕ) (shape : Shape) → slice_get shapes s ≡ Some shape → Offers m shapes (kind_in shapes shape) shape
  offered_at s shape is = (All_at (MembersAreOffered m shapes) shapes s shape (members_are_offered m shapes well) is).capabilities

  -- leaves have the capabilities that their shape offers
  pub leaves_can : (s : ℕ) (k : ScalarType) → structure_at shapes s ≡ scalar k → (c : Characteristic) → IsAsked c → offers shapes s c ≡ true → m.can k c ≡ true
  unfolding structure_at
  leaves_can s k scalar_there c is offered = go (slice_get shapes s) refl scalar_there offered
    where
      go : (o : Option Shape) → slice_get shapes s ≡ o → option_map_or (λ shape. structure_of_kind shapes (kind_in shapes shape) shape) o no_values ≡ scalar k
          → option_map_or (λ shape. can shape c) o false ≡ true → m.can k c ≡ true
      go None here scalar_there offered = absurd (cc)
      go (Some shape) here scalar_there offered =
          leaf_can m shapes k shape (subst (λ k. Offers m shapes k shape) (kind_of_leaf m shapes (kind_in shapes shape) shape k scalar_there) (offered_at s shape here)) c is offered

  -- where each shape that is reached offers what is asked, it is answered
  pub is_there : (s : ℕ) → (structure_at shapes s ≡ no_values → ⊥) → (c : Characteristic) → IsAsked c → AllOffer shapes c s → is_answered shapes c s ≡ true
  unfolding structure_at parts_of
  is_there s some c is all =
      let own = own_offer shapes c s all in
      and_from (offers shapes s c) _ own (go (slice_get shapes s) refl some own (λ part edge. all part (record { way = part ∷ []; leads = (edge, refl) })))
    where
      go : (o : Option Shape) → slice_get shapes s ≡ o → (option_map_or (λ shape. structure_of_kind shapes (kind_in shapes shape) shape) o no_values ≡ no_values → ⊥) → option_map_or (λ shape. can shape c) o false ≡ true
          → ((part : ℕ) → Contains (indices (option_map_or (λ shape. parts (element_of shapes shape.def) shape) o [])) part → offers shapes part c ≡ true)
          → is_comparable shapes (option_map_or (λ shape. structure_of_kind shapes (kind_in shapes shape) shape) o no_values) c ≡ true
      go None here some own each = absurd (some refl)
      go (Some shape) here some own each =
          let ids = parts (element_of shapes shape.def) shape in
          comparable m shapes (kind_in shapes shape) shape (offered_at s shape here) c is own
          (list_all-from_AllPass (λ id. offers shapes id.0 c) ids (λ i d below. each _ (contains_index ids _ (All-contains_itself ids i d below)))) some

  -- where each shape that is reached has an order, each has equality
  orders_at : (s : ℕ) (shape : Shape) → slice_get shapes s ≡ Some shape → has_order_alone (capabilities_of shape.vtable) ≡ false
  unfolding is_mismatched
  orders_at s shape is =
      (or_parts _ _ (false_from_ne_true (is_mismatched (layout_at shapes) shape)
      (λ met. well cause.Mismatch s (slice_get_within shapes s shape is) (subst (OfShape (ShapeMeets m shapes cause.Mismatch s)) (sym is) met)))).1

  offers_equality : (which : Which) (s : ℕ) → offers shapes s (capability_of which) ≡ true → offers shapes s trait.PartialEq ≡ true
  offers_equality which s offered = go which (slice_get shapes s) refl offered
    where
      go : (which : Which) (o : Option Shape) → slice_get shapes s ≡ o → option_map_or (λ shape. can shape (capability_of which)) o false ≡ true → option_map_or (λ shape. can shape trait.PartialEq) o false ≡ true
      go which None is offered = absurd (cc)
      go by_partial (Some shape) is offered =
          let v = capabilities_of shape.vtable in (comes_with v.partial_eq v.partial_cmp v.cmp (orders_at s shape is)).1 offered
      go by_total (Some shape) is offered =
          let v = capabilities_of shape.vtable in
          let both = comes_with v.partial_eq v.partial_cmp v.cmp (orders_at s shape is) in both.1 (both.0 offered)

  pub all_offer_equality : (which : Which) (s : ℕ) → AllOffer shapes (capability_of which) s → AllOffer shapes trait.PartialEq s
  all_offer_equality which s all part reached = offers_equality which part (all part reached)

  -- two leaves of one shape are of one kind, which has what the shape offers
  pub have_leaves : (s : ℕ) (x y : L) → Fits m shapes s (leaf x) → Fits m shapes s (leaf y) → (c : Characteristic) → IsAsked c → is_answered shapes c s ≡ true → Have m c x y
  have_leaves s x y fits also c is answered =
      record { can = leaves_can s (m.kind x) fits c is (and_parts (offers shapes s c) _ answered).0; one_kind = same_kind (m.kind x) (m.kind y) (sym fits ∙ also) }

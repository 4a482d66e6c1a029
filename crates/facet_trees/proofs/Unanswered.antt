-- Where comparisons have no answer.
use Rattle.std.proofs.Common.{◌≡◌, ◌⊎◌, ◌<◌, ℕ, length, Bool, true, false, List, [], Contains, Option, None, Some, slice_get, refl, sym, ap, ◌∙◌, subst, inl, inr, arith}
use Rattle.std.specs.List.{list_all}
use Rattle.std.specs.Option.{option_map_or}
use Rattle.std.proofs.lemmas.Bool.{and_left, and_right, false≢true, true≢false, false_from_ne_true}
use Rattle.std.proofs.lemmas.List.{length-map, get_or-map}
use Rattle.std.proofs.lemmas.List.Sums.{AllPass-from_list_all}
use Rattle.facet_base.specs.declared.characteristic.Characteristic.{Characteristic}
use Rattle.facet_base.specs.declared.characteristic.Characteristic.TheVariants as trait
use Rattle.facet_base.specs.declared.layout.ShapeId.{ShapeId}
use Rattle.facet_causes.specs.Reading.{element_of, indices, kind_in, parts_at, parts_of}
use Rattle.facet_leaf.specs.LeafModel.{LeafModel}
use Rattle.facet_outline.specs.Part.{parts}
use Rattle.facet_outline.specs.declared.value_kind.ValueKind.{ValueKind}
use Rattle.facet_outline.specs.declared.value_kind.ValueKind.TheVariants as kind
use Rattle.facet_registry.specs.Registry.{kind_at, offers}
use Rattle.facet_shape.specs.declared.shape.Shape.{Shape}
use Rattle.facet_trees.specs.Answered.{answer_if, is_answered, is_comparable}
use Rattle.facet_trees.specs.Equal.{equality}
use Rattle.facet_trees.specs.Order.{Which, capability_of, ordering}
use Rattle.facet_trees.specs.Structure.{no_values, structure_at, structure_of_kind}
use Rattle.facet_trees.specs.Value.{Value, leaf, node}

not_there : {A : Type 0} (is_there : Bool) (answer : Option A) → is_there ≡ false → answer_if is_there answer ≡ None
not_there true answer is = absurd (true≢false is)
not_there false answer is = refl

-- if each index of some shapes passes a test, so does each shape
passes : (p : ℕ → Bool) (ids : List ShapeId) (i : ℕ) → Contains (indices ids) i → list_all (λ id. p id.0) ids ≡ true → p i ≡ true
passes p ids i (k, below, at) all =
    let within : k < length ids = omega (arith, below, length-map ids (λ (id : ShapeId). id.0)) in
    let d : ShapeId = record { 0 = i } in
    subst (λ n. p n ≡ true) (sym (get_or-map (λ (id : ShapeId). id.0) ids k d i within) ∙ at) (AllPass-from_list_all (λ id. p id.0) ids all k d within)

module _ {L : Type 0} (m : LeafModel L) (shapes : List Shape) where
  pub unordered : (which : Which) (s : ℕ) (v w : Value L) → is_answered shapes (capability_of which) s ≡ false → ordering m shapes which s v w ≡ None
  unfolding ordering
  unordered which s (leaf x) (leaf y) is = not_there (is_answered shapes (capability_of which) s) _ is
  unordered which s (leaf x) (node other ws) is = not_there (is_answered shapes (capability_of which) s) _ is
  unordered which s (node form vs) (leaf y) is = not_there (is_answered shapes (capability_of which) s) _ is
  unordered which s (node form vs) (node other ws) is = not_there (is_answered shapes (capability_of which) s) _ is

  pub uncompared : (s : ℕ) (v w : Value L) → is_answered shapes trait.PartialEq s ≡ false → equality m shapes s v w ≡ None
  unfolding equality
  uncompared s (leaf x) (leaf y) is = not_there (is_answered shapes trait.PartialEq s) _ is
  uncompared s (leaf x) (node other ws) is = not_there (is_answered shapes trait.PartialEq s) _ is
  uncompared s (node form vs) (leaf y) is = not_there (is_answered shapes trait.PartialEq s) _ is
  uncompared s (node form vs) (node other ws) is = not_there (is_answered shapes trait.PartialEq s) _ is

module _ (shapes : List Shape) (c : Characteristic) where
  pub without_capability : (s : ℕ) → offers shapes s c ≡ false → is_answered shapes c s ≡ false
  without_capability s none = and_left (offers shapes s c) (is_comparable shapes (structure_at shapes s) c) none

  of_elements : (k : ValueKind) (shape : Shape) → (k ≡ kind.List) ⊎ (k ≡ kind.BoxedSlice) → is_comparable shapes (structure_of_kind shapes k shape) c ≡ list_all (λ id. offers shapes id.0 c) (parts (element_of shapes shape.def) shape)
  of_elements k shape (inl is) = ap (λ k. is_comparable shapes (structure_of_kind shapes k shape) c) is
  of_elements k shape (inr is) = ap (λ k. is_comparable shapes (structure_of_kind shapes k shape) c) is

  pub without_elements : (s element : ℕ) → (kind_at shapes s ≡ kind.List) ⊎ (kind_at shapes s ≡ kind.BoxedSlice) → Contains (parts_at shapes s) element → offers shapes element c ≡ false → is_answered shapes c s ≡ false
  unfolding structure_at parts_of
  without_elements s element is among none = and_right (offers shapes s c) (is_comparable shapes (structure_at shapes s) c) (go (slice_get shapes s) is among)
    where
      go : (o : Option Shape) → (option_map_or (kind_in shapes) o kind.NoValue ≡ kind.List) ⊎ (option_map_or (kind_in shapes) o kind.NoValue ≡ kind.BoxedSlice)
          → Contains (indices (option_map_or (λ shape. parts (element_of shapes shape.def) shape) o [])) element → is_comparable shapes (option_map_or (λ shape. structure_of_kind shapes (kind_in shapes shape) shape) o no_values) c ≡ false
      go None is among = refl
      go (Some shape) is among =
          of_elements (kind_in shapes shape) shape is
          ∙ false_from_ne_true (list_all (λ id. offers shapes id.0 c) (parts (element_of shapes shape.def) shape))
          (λ all. false≢true (sym none ∙ passes (λ i. offers shapes i c) (parts (element_of shapes shape.def) shape) element among all))

  not_comparable : (k : ValueKind) (shape : Shape) → (k ≡ kind.Map) ⊎ (k ≡ kind.Set) → is_comparable shapes (structure_of_kind shapes k shape) c ≡ false
  not_comparable k shape (inl is) = ap (λ k. is_comparable shapes (structure_of_kind shapes k shape) c) is
  not_comparable k shape (inr is) = ap (λ k. is_comparable shapes (structure_of_kind shapes k shape) c) is

  pub of_map_or_set : (s : ℕ) → (kind_at shapes s ≡ kind.Map) ⊎ (kind_at shapes s ≡ kind.Set) → is_answered shapes c s ≡ false
  unfolding structure_at
  of_map_or_set s is = and_right (offers shapes s c) (is_comparable shapes (structure_at shapes s) c) (go (slice_get shapes s) is)
    where
      go : (o : Option Shape) → (option_map_or (kind_in shapes) o kind.NoValue ≡ kind.Map) ⊎ (option_map_or (kind_in shapes) o kind.NoValue ≡ kind.Set)
          → is_comparable shapes (option_map_or (λ shape. structure_of_kind shapes (kind_in shapes shape) shape) o no_values) c ≡ false
      go None is = refl
      go (Some shape) is = not_comparable (kind_in shapes shape) shape is

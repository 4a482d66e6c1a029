-- Which structures have keys, and what places have their shape.
use Rattle.std.proofs.Common.{◌≡◌, ◌↔◌, ℕ, zero, suc, List, [], ◌∷◌, AllPairs, Option, None, Some, length, map, slice_get, refl, sym, ap, subst, arith}
use Rattle.std.specs.Option.{option_map_or}
use Rattle.facet_base.specs.declared.layout.ShapeId.{ShapeId}
use Rattle.facet_causes.specs.Reading.{element_of, indices, kind_in}
use Rattle.facet_def.specs.declared.def.Def.{Def}
use Rattle.facet_def.specs.declared.def.Def.TheVariants as def
use Rattle.facet_desc.specs.declared.ty.Ty.{Ty}
use Rattle.facet_leaf.specs.LeafModel.{LeafModel}
use Rattle.facet_outline.specs.Part.{parts, parts_of_kind}
use Rattle.facet_outline.specs.declared.value_kind.ValueKind.{ValueKind}
use Rattle.facet_outline.specs.declared.value_kind.ValueKind.TheVariants as kind
use Rattle.facet_shape.specs.declared.shape.Shape.{Shape}
use Rattle.facet_trees.specs.Ascending.{AreAscending, IsInOrder, IsLess}
use Rattle.facet_trees.specs.Fits.{HasForm}
use Rattle.facet_trees.specs.Structure.{Structure, no_values, plain, scalar, sequence, tagged, in_turn, option_form, part_shapes, result_form, structure_at, structure_of_kind}
use Rattle.facet_trees.specs.Value.{Value}
use Rattle.facet_trees.specs.declared.form.Form.{Form}
use Rattle.facet_trees.specs.declared.form.Form.TheVariants as form
use Rattle.facet_values.proofs.FittingValues.{shapes_of, shapes_of_seen}
use Rattle.facet_values.specs.Place.{Place}
use Rattle.facet_values.specs.Reading.{values_by}
use Rattle.facet_values.specs.Seen.{a_node, seen}
use Rattle.facet_walk.proofs.SeenKinds.{HasElements, has_elements}
use Rattle.facet_readable.specs.KeyPlaces.{every_second_place, key_places}
use Rattle.facet_readable.proofs.KeyLookups.{IsKeyless, keys_at, no_key_places}

abbrev IsPair : List ShapeId → Type 0
IsPair (key ∷ value ∷ []) = Unit {0}
IsPair _ = ⊥

abbrev IsSingle : List ShapeId → Type 0
IsSingle (item ∷ []) = Unit {0}
IsSingle _ = ⊥

-- maps and sets are sequences; the blocks of a map hold pairs, and those of a set single items
abbrev HasKeys : Structure → Type 0
HasKeys (plain own body) = IsKeyless own
HasKeys (tagged forms bodies) = (tag : ℕ) → IsKeyless (forms tag)
HasKeys (sequence form.Map ids) = IsPair ids
HasKeys (sequence form.Set ids) = IsSingle ids
HasKeys _ = Unit {0}

pair_of : (element : Option ShapeId) (d : Def) (t : Ty) → HasElements kind.Map d → IsPair (parts_of_kind kind.Map element d t)
pair_of element (def.Map d) t has = tt
pair_of element _ t has = absurd has

single_of : (element : Option ShapeId) (d : Def) (t : Ty) → HasElements kind.Set d → IsSingle (parts_of_kind kind.Set element d t)
single_of element (def.Set d) t has = tt
single_of element _ t has = absurd has

option_keyless : (tag : ℕ) → IsKeyless (option_form tag)
option_keyless zero = tt
option_keyless (suc tag) = tt

result_keyless : (tag : ℕ) → IsKeyless (result_form tag)
result_keyless zero = tt
result_keyless (suc tag) = tt

module _ (shapes : List Shape) where
  module _ (shape : Shape) where
    consists : (k : ValueKind) → kind_in shapes shape ≡ k → parts_of_kind k (element_of shapes shape.def) shape.def shape.ty ≡ parts (element_of shapes shape.def) shape
    unfolding parts
    consists k is = ap (λ j. parts_of_kind j (element_of shapes shape.def) shape.def shape.ty) (sym is)

    elements : (k : ValueKind) → kind_in shapes shape ≡ k → HasElements k shape.def
    elements k is = subst (λ j. HasElements j shape.def) is (has_elements (element_of shapes shape.def) shape)

    of_kind : (k : ValueKind) → kind_in shapes shape ≡ k → HasKeys (structure_of_kind shapes k shape)
    of_kind kind.Map is = subst IsPair (consists kind.Map is) (pair_of (element_of shapes shape.def) shape.def shape.ty (elements kind.Map is))
    of_kind kind.Set is = subst IsSingle (consists kind.Set is) (single_of (element_of shapes shape.def) shape.def shape.ty (elements kind.Set is))
    of_kind kind.Enum is = λ tag. tt
    of_kind kind.Option is = option_keyless
    of_kind kind.Result is = result_keyless
    of_kind _ is = tt

  has_keys : (s : ℕ) → HasKeys (structure_at shapes s)
  unfolding structure_at
  has_keys s = go (slice_get shapes s)
    where
      go : (o : Option Shape) → HasKeys (option_map_or (λ shape. structure_of_kind shapes (kind_in shapes shape) shape) o no_values)
      go None = tt
      go (Some shape) = of_kind shape (kind_in shapes shape) refl

module _ {L : Type 0} where
  -- each of the places is of the shape
  pub record HaveShape (s : ℕ) (ps : List (Place L)) : Type 0 where
    pub each : (i : ℕ) (p : Place L) → slice_get ps i ≡ Some p → p.shape ≡ s

  no_places_have : (s : ℕ) → HaveShape s []
  no_places_have s = record { each = λ i p is. absurd (cc) }

  cons_have : (s : ℕ) (p : Place L) (ps : List (Place L)) → p.shape ≡ s → HaveShape s ps → HaveShape s (p ∷ ps)
  cons_have s p ps first rest = record { each = at }
    where
      at : (i : ℕ) (q : Place L) → slice_get (p ∷ ps) i ≡ Some q → q.shape ≡ s
      at zero q is = let same : p ≡ q = cc in subst (λ (r : Place L). r.shape ≡ s) same first
      at (suc i) q is = rest.each i q is

  item_shapes : (item : ShapeId) (ps : List (Place L)) → in_turn (indices (item ∷ [])) (length ps) ≡ shapes_of ps → HaveShape item.0 ps
  item_shapes item [] is = no_places_have item.0
  item_shapes item (p ∷ ps) is =
      let first : p.shape ≡ item.0 = cc in
      let rest : in_turn (indices (item ∷ [])) (length ps) ≡ shapes_of ps = cc in
      cons_have item.0 p ps first (item_shapes item ps rest)

  key_shapes : (key value : ShapeId) (ps : List (Place L)) → in_turn (indices (key ∷ value ∷ [])) (length ps) ≡ shapes_of ps → HaveShape key.0 (every_second_place ps)
  key_shapes key value [] is = no_places_have key.0
  key_shapes key value (p ∷ []) is = let first : p.shape ≡ key.0 = cc in cons_have key.0 p [] first (no_places_have key.0)
  key_shapes key value (p ∷ q ∷ ps) is =
      let first : p.shape ≡ key.0 = cc in
      let rest : in_turn (indices (key ∷ value ∷ [])) (length ps) ≡ shapes_of ps = cc in
      cons_have key.0 p (every_second_place ps) first (key_shapes key value ps rest)

  module _ (m : LeafModel L) (shapes : List Shape) where
    -- the values of parts are in order where those at the places of the keys ascend, which have one shape
    pub record IsOrderOf (t : Structure) (form : Form) (ps : List (Place L)) (value : Place L → Value L) : Type 0 where
      pub key : ℕ
      pub have : HaveShape key (key_places form ps)
      pub order : IsInOrder m shapes t (values_by value ps) ↔ AllPairs (IsLess m shapes key) (map value (key_places form ps))

    nothing_ascends : (key : ℕ) → AllPairs (IsLess m shapes key) []
    nothing_ascends key i j d before below = absurd (omega (arith, below))

    order_of_none : (t : Structure) (form : Form) (ps : List (Place L)) (value : Place L → Value L) → IsInOrder m shapes t (values_by value ps) → key_places form ps ≡ [] → IsOrderOf t form ps value
    order_of_none t form ps value order none = record {
      key = 0;
      have = subst (HaveShape 0) (sym none) (no_places_have 0);
      order = (λ is. subst (λ keys. AllPairs (IsLess m shapes 0) (map value keys)) (sym none) (nothing_ascends 0), λ all. order);
    }

    same_keys : (key : ℕ) (xs ys : List (Value L)) → xs ≡ ys → AreAscending m shapes key xs ↔ AreAscending m shapes key ys
    same_keys key xs ys is = (subst (AreAscending m shapes key) is, subst (AreAscending m shapes key) (sym is))

    order_by : (t : Structure) (shown : Form) (ps : List (Place L)) (value : Place L → Value L) → HasKeys t → HasForm t shown → part_shapes t shown (length ps) ≡ shapes_of ps → IsOrderOf t shown ps value
    order_by no_values shown ps value has is same = absurd is
    order_by (scalar k) shown ps value has is same = absurd is
    order_by (plain own body) shown ps value has is same = order_of_none (plain own body) shown ps value tt (no_key_places shown ps (subst IsKeyless (sym is) has))
    order_by (tagged forms bodies) shown ps value has is same = order_of_none (tagged forms bodies) shown ps value tt (no_key_places shown ps (subst IsKeyless (sym is.1) (has _)))
    order_by (sequence own ids) shown ps value has is same = subst (λ f. IsOrderOf (sequence own ids) f ps value) (sym is) (go own ids has same)
      where
        go : (own : Form) (ids : List ShapeId) → HasKeys (sequence own ids) → in_turn (indices ids) (length ps) ≡ shapes_of ps → IsOrderOf (sequence own ids) own ps value
        go form.Map (key ∷ rest ∷ []) has same = record { key = key.0; have = key_shapes key rest ps same; order = same_keys key.0 _ _ (keys_at value form.Map ps) }
        go form.Set (item ∷ []) has same = record { key = item.0; have = item_shapes item ps same; order = same_keys item.0 _ _ (keys_at value form.Set ps) }
        go form.Map _ has same = absurd has
        go form.Set _ has same = absurd has
        go own [] has same = order_of_none (sequence own []) own ps value tt refl
        go own (key ∷ rest) has same = order_of_none (sequence own (key ∷ rest)) own ps value (nothing_ascends key.0) refl

    -- of what is seen at a place
    pub order_of_seen : (p : Place L) (form : Form) (ps : List (Place L)) (value : Place L → Value L) → a_node form ps ≡ seen shapes p → IsOrderOf (structure_at shapes p.shape) form ps value
    order_of_seen p form ps value is =
        let has = shapes_of_seen shapes p form ps (sym is) in
        order_by (structure_at shapes p.shape) form ps value (has_keys shapes p.shape) has.0 has.1

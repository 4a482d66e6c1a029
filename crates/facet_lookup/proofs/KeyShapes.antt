-- The shape of the keys of a map and of the items of a set, and that it has a total order all the way down.
use Rattle.std.proofs.Common.{◌≡◌, ℕ, ◌<◌, true, false, List, [], ◌∷◌, All, Option, None, Some, length, slice_get, unwrap_or, refl, sym, ap, ◌∙◌, subst, inl, inr}
use Rattle.std.specs.Option.{option_map_or, option_to_list}
use Rattle.std.proofs.lemmas.Bool.{true≢false}
use Rattle.std.proofs.lemmas.List.Elements.{All-head}
use Rattle.std.proofs.lemmas.Option.{slice_get_within}
use Rattle.facet_base.proofs.Lists.{All_at}
use Rattle.facet_base.specs.declared.characteristic.Characteristic.TheVariants as trait
use Rattle.facet_base.specs.declared.layout.ShapeId.{ShapeId}
use Rattle.facet_block.specs.Block.{empty_block}
use Rattle.facet_causes.proofs.KeysOrdered.{keys_are_ordered}
use Rattle.facet_causes.specs.Causes.{IsWellFormed}
use Rattle.facet_causes.specs.KeyNotOrd.{keys_of}
use Rattle.facet_causes.specs.OrderedKeys.{IsOrdered, KeysAreOrdered}
use Rattle.facet_causes.specs.Reading.{OfShape, indices, kind_in, parts_at}
use Rattle.facet_def.specs.declared.def.Def.{Def}
use Rattle.facet_def.specs.declared.def.Def.TheVariants as def
use Rattle.facet_def.specs.declared.map_def.MapDef.{MapDef}
use Rattle.facet_def.specs.declared.set_def.SetDef.{SetDef}
use Rattle.facet_graph.specs.Reach.{Reaches}
use Rattle.facet_leaf.specs.LeafModel.{LeafModel}
use Rattle.facet_lookup.specs.Find.{HasKeys, key_shape}
use Rattle.facet_outline.specs.Part.{key_of_kind}
use Rattle.facet_outline.specs.declared.value_kind.ValueKind.{ValueKind}
use Rattle.facet_outline.specs.declared.value_kind.ValueKind.TheVariants as kind
use Rattle.facet_registry.specs.Registry.{kind_at, offers}
use Rattle.facet_shape.specs.Capability.{can}
use Rattle.facet_shape.specs.WithoutSpare.{shape_without_spare}
use Rattle.facet_shape.specs.declared.shape.Shape.{Shape}
use Rattle.facet_trees.specs.Answered.{AllOffer}
use Rattle.facet_trees.specs.Structure.{part_shapes, sequence, structure_at}
use Rattle.facet_trees.specs.declared.form.Form.TheVariants as form
use Rattle.facet_values.proofs.KindRows.{map_structure, set_structure}
use Rattle.facet_values.specs.Place.{Place, start_of}
use Rattle.facet_walk.proofs.SeenKinds.{HasElements, elements_here, kind_here}

-- by how the values of the shape are made up
pub key_of_pairs : (shapes : List Shape) (s : ℕ) (key value : ShapeId) → structure_at shapes s ≡ sequence form.Map (key ∷ value ∷ []) → key_shape shapes s ≡ key.0
key_of_pairs shapes s key value is = ap (λ st. unwrap_or (slice_get (part_shapes st form.Map 1) 0) 0) is

pub key_of_items : (shapes : List Shape) (s : ℕ) (item : ShapeId) → structure_at shapes s ≡ sequence form.Set (item ∷ []) → key_shape shapes s ≡ item.0
key_of_items shapes s item is = ap (λ st. unwrap_or (slice_get (part_shapes st form.Map 1) 0) 0) is

-- what has the total order all the way down is there
pub is_known : (shapes : List Shape) (id : ℕ) → AllOffer shapes trait.Ord id → id < length shapes
is_known shapes id all = go (slice_get shapes id) refl (all id (record { way = []; leads = refl }))
  where
    go : (o : Option Shape) → slice_get shapes id ≡ o → option_map_or (λ (shape : Shape). can shape trait.Ord) o false ≡ true → id < length shapes
    go None is fails = absurd (true≢false (sym fails))
    go (Some shape) is offered = slice_get_within shapes id shape is

offers_order : (shapes : List Shape) (part : ℕ) → OfShape (IsOrdered shapes) (slice_get shapes part) → offers shapes part trait.Ord ≡ true
offers_order shapes part is = go (slice_get shapes part) is
  where
    go : (o : Option Shape) → OfShape (IsOrdered shapes) o → option_map_or (λ (shape : Shape). can shape trait.Ord) o false ≡ true
    go None is = absurd is
    go (Some shape) is = is.cmp

module _ {L : Type 0} (m : LeafModel L) (shapes : List Shape) (well : IsWellFormed m shapes) (s : ℕ) (shape : Shape) (here : slice_get shapes s ≡ Some (shape_without_spare shape)) where
  abbrev place : Place L
  place = start_of s (empty_block 0)

  elements : (k : ValueKind) → kind_at shapes s ≡ k → HasElements k shape.def
  elements k of = elements_here shapes place k shape (record { here = here; kind = of })

  kind_is : (k : ValueKind) → kind_at shapes s ≡ k → kind_in shapes (shape_without_spare shape) ≡ k
  kind_is k of = kind_here shapes place k shape (record { here = here; kind = of })

  map_kind : (d : MapDef) → shape.def ≡ def.Map d → HasKeys shapes s → kind_at shapes s ≡ kind.Map
  map_kind d is (inl of) = of
  map_kind d is (inr of) = absurd (subst (HasElements kind.Set) is (elements kind.Set of))

  set_kind : (d : SetDef) → shape.def ≡ def.Set d → HasKeys shapes s → kind_at shapes s ≡ kind.Set
  set_kind d is (inl of) = absurd (subst (HasElements kind.Map) is (elements kind.Map of))
  set_kind d is (inr of) = of

  -- each shape that is reached by parts from a key is ordered
  ordered_of : (k : ValueKind) → kind_at shapes s ≡ k → (id : ShapeId) → key_of_kind k shape.def ≡ Some id → AllOffer shapes trait.Ord id.0
  ordered_of k of id is = λ part reached.
      let listed : keys_of shapes (shape_without_spare shape) ≡ id ∷ [] = ap (λ j. option_to_list (key_of_kind j shape.def)) (kind_is k of) ∙ ap option_to_list is in
      let all : KeysAreOrdered shapes (shape_without_spare shape) = All_at (KeysAreOrdered shapes) shapes s (shape_without_spare shape) (keys_are_ordered m shapes well) here in
      let each = subst (λ ids. All (λ key. (part : ℕ) → Reaches (parts_at shapes) key part → OfShape (IsOrdered shapes) (slice_get shapes part)) (indices ids)) listed all in
      offers_order shapes part (All-head (λ key. (part : ℕ) → Reaches (parts_at shapes) key part → OfShape (IsOrdered shapes) (slice_get shapes part)) id.0 [] each part reached)

  module _ (has : HasKeys shapes s) where
    pub map_key : (d : MapDef) → shape.def ≡ def.Map d → d.k.0 ≡ key_shape shapes s
    map_key d is = sym (key_of_pairs shapes s d.k d.v (map_structure shapes s (shape_without_spare shape) here d (kind_is kind.Map (map_kind d is has)) is))

    pub set_key : (d : SetDef) → shape.def ≡ def.Set d → d.t.0 ≡ key_shape shapes s
    set_key d is = sym (key_of_items shapes s d.t (set_structure shapes s (shape_without_spare shape) here d (kind_is kind.Set (set_kind d is has)) is))

    pub map_ordered : (d : MapDef) → shape.def ≡ def.Map d → AllOffer shapes trait.Ord d.k.0
    map_ordered d is = ordered_of kind.Map (map_kind d is has) d.k (ap (key_of_kind kind.Map) is)

    pub set_ordered : (d : SetDef) → shape.def ≡ def.Set d → AllOffer shapes trait.Ord d.t.0
    set_ordered d is = ordered_of kind.Set (set_kind d is has) d.t (ap (key_of_kind kind.Set) is)

    pub no_other : ((d : MapDef) → shape.def ≡ def.Map d → ⊥) → ((d : SetDef) → shape.def ≡ def.Set d → ⊥) → ⊥
    no_other no_map no_set = go has
      where
        map : (d : Def) → shape.def ≡ d → HasElements kind.Map d → ⊥
        map (def.Map d) is has = no_map d is
        map _ is has = has

        set : (d : Def) → shape.def ≡ d → HasElements kind.Set d → ⊥
        set (def.Set d) is has = no_set d is
        set _ is has = has

        go : HasKeys shapes s → ⊥
        go (inl of) = map shape.def refl (elements kind.Map of)
        go (inr of) = set shape.def refl (elements kind.Set of)

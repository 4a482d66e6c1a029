-- What a place reads as fits the place's shape.
use Rattle.std.proofs.Common.{◌≡◌, ℕ, suc, ◌<◌, List, [], ◌∷◌, length, map, Option, None, Some, slice_get, unwrap_or, refl, sym, ap, ◌∙◌, subst}
use Rattle.std.specs.Option.{option_map_or}
use Rattle.std.proofs.lemmas.Option.{slice_get_within}
use Rattle.facet_base.specs.declared.layout.ShapeId.{ShapeId}
use Rattle.facet_leaf.specs.LeafModel.{LeafModel}
use Rattle.facet_block.specs.declared.block.Block.{Block}
use Rattle.facet_block.specs.declared.block.Item.{Item, Leaf, Tag, Sequence}
use Rattle.facet_block.specs.declared.block.Seq.{Seq}
use Rattle.facet_block.specs.Block.{leaf_of, sequence_of, tag_of}
use Rattle.facet_block.specs.Seq.{filled_of}
use Rattle.facet_causes.specs.Reading.{indices}
use Rattle.facet_outline.specs.declared.placed_fields.PlacedField.{PlacedField}
use Rattle.facet_shape.specs.declared.shape.Shape.{Shape}
use Rattle.facet_trees.specs.Fits.{AllFit, Fits, HasForm}
use Rattle.facet_trees.specs.Structure.{Structure, no_values, plain, scalar, sequence, tagged, block_body, body_under, in_turn, part_shapes, structure_at}
use Rattle.facet_trees.specs.Value.{Value, Values, leaf, node, none, more, count}
use Rattle.facet_trees.specs.declared.form.Form.{Form}
use Rattle.facet_values.specs.Place.{Place, block_places, own_item, part_places}
use Rattle.facet_values.specs.Reading.{IsItemOf, IsWhole, ReadAll, Reads}
use Rattle.facet_values.specs.Seen.{Seen, a_leaf, a_node, no_value, seen, seen_by}
use Rattle.facet_values.proofs.TagForms.{AreNamedByTags, named_by_tags}

module _ {L : Type 0} where
  -- the shapes of some places
  abbrev pub shapes_of : List (Place L) → List ℕ
  shapes_of ps = map (λ (p : Place L). p.shape) ps

  shapes_of_parts : (p : Place L) (body : List PlacedField) → map (λ part. part.shape.0) body ≡ shapes_of (part_places p body)
  shapes_of_parts p [] = refl
  shapes_of_parts p (part ∷ body) = ap (λ rest. part.shape.0 ∷ rest) (shapes_of_parts p body)

  module _ (shapes : List Shape) where
    -- parts in blocks have the shapes of a block's in turn
    shapes_in_turn : (ids : List ShapeId) (blocks : List (Block L)) → in_turn (indices ids) (length (block_places (block_body shapes ids) blocks)) ≡ shapes_of (block_places (block_body shapes ids) blocks)
    shapes_in_turn [] [] = refl
    shapes_in_turn [] (block ∷ blocks) = shapes_in_turn [] blocks
    shapes_in_turn (part ∷ []) [] = refl
    shapes_in_turn (part ∷ []) (block ∷ blocks) = ap (λ rest. part.0 ∷ rest) (shapes_in_turn (part ∷ []) blocks)
    shapes_in_turn (key ∷ value ∷ []) [] = refl
    shapes_in_turn (key ∷ value ∷ []) (block ∷ blocks) = ap (λ rest. key.0 ∷ value.0 ∷ rest) (shapes_in_turn (key ∷ value ∷ []) blocks)
    shapes_in_turn (a ∷ b ∷ c ∷ ids) [] = refl
    shapes_in_turn (a ∷ b ∷ c ∷ ids) (block ∷ blocks) = shapes_in_turn (a ∷ b ∷ c ∷ ids) blocks

    -- what is seen is of a form of the structure, and its parts have the shapes that the structure says
    abbrev HasShapesOf : Structure → Seen L → Type 0
    HasShapesOf t (a_node form parts) = HasForm t form × (part_shapes t form (length parts) ≡ shapes_of parts)
    HasShapesOf t _ = Unit {0}

    leaf_shapes : (t : Structure) (found : Option L) → HasShapesOf t (option_map_or a_leaf found no_value)
    leaf_shapes t None = tt
    leaf_shapes t (Some x) = tt

    tagged_shapes : (forms : ℕ → Form) (bodies : List (List PlacedField)) (p : Place L) (tag : Option ℕ) → AreNamedByTags (tagged forms bodies)
        → HasShapesOf (tagged forms bodies) (option_map_or (λ t. option_map_or (λ body. a_node (forms t) (part_places p body)) (slice_get bodies t) no_value) tag no_value)
    tagged_shapes forms bodies p None named = tt
    tagged_shapes forms bodies p (Some t) named = under (slice_get bodies t) refl
      where
        under : (found : Option (List PlacedField)) → slice_get bodies t ≡ found → HasShapesOf (tagged forms bodies) (option_map_or (λ body. a_node (forms t) (part_places p body)) found no_value)
        under None is = tt
        under (Some body) is =
            let below = slice_get_within bodies t body is in
            let back = named t below in (
              (subst (λ n. n < length bodies) (sym back) below, ap forms (sym back)),
              ap (λ n. map (λ part. part.shape.0) (body_under bodies n)) back ∙ ap (λ o. map (λ part. part.shape.0) (unwrap_or o [])) is ∙ shapes_of_parts p body,
            )

    sequence_shapes : (form : Form) (ids : List ShapeId) (found : Option (Seq L)) → HasShapesOf (sequence form ids) (option_map_or (λ s. a_node form (block_places (block_body shapes ids) (filled_of s))) found no_value)
    sequence_shapes form ids None = tt
    sequence_shapes form ids (Some s) = (refl, shapes_in_turn ids (filled_of s))

    seen_shapes : (t : Structure) (p : Place L) (found : Option (Item L)) → AreNamedByTags t → HasShapesOf t (seen_by shapes t p found)
    seen_shapes no_values p found named = tt
    seen_shapes (scalar k) p found named = leaf_shapes (scalar k) (leaf_of found)
    seen_shapes (plain form body) p found named = (refl, shapes_of_parts p body)
    seen_shapes (tagged forms bodies) p found named = tagged_shapes forms bodies p (tag_of found) named
    seen_shapes (sequence form ids) p found named = sequence_shapes form ids (sequence_of found)

    node_shapes : (t : Structure) (s : Seen L) (form : Form) (parts : List (Place L)) → HasShapesOf t s → s ≡ a_node form parts → HasForm t form × (part_shapes t form (length parts) ≡ shapes_of parts)
    node_shapes t s form parts has is = subst (HasShapesOf t) is has

    -- a node is of a form of its shape, and its parts have the shapes that the structure says
    pub shapes_of_seen : (p : Place L) (form : Form) (parts : List (Place L)) → seen shapes p ≡ a_node form parts
        → HasForm (structure_at shapes p.shape) form × (part_shapes (structure_at shapes p.shape) form (length parts) ≡ shapes_of parts)
    unfolding seen
    shapes_of_seen p form parts is =
        node_shapes (structure_at shapes p.shape) (seen shapes p) form parts (seen_shapes (structure_at shapes p.shape) p (own_item p) (named_by_tags shapes p.shape)) is

module _ {L : Type 0} (m : LeafModel L) (shapes : List Shape) where
  -- a leaf that is seen is of the kind of the structure
  abbrev IsLeafOf : Structure → Option (Item L) → Seen L → Type 0
  IsLeafOf t found (a_leaf x) = IsItemOf m shapes t found → t ≡ scalar (m.kind x)
  IsLeafOf t found _ = Unit {0}

  no_leaf_tagged : (t : Structure) (found : Option (Item L)) (forms : ℕ → Form) (bodies : List (List PlacedField)) (p : Place L) (tag : Option ℕ)
      → IsLeafOf t found (option_map_or (λ t. option_map_or (λ body. a_node (forms t) (part_places p body)) (slice_get bodies t) no_value) tag no_value)
  no_leaf_tagged t found forms bodies p None = tt
  no_leaf_tagged t found forms bodies p (Some n) = under (slice_get bodies n)
    where
      under : (body : Option (List PlacedField)) → IsLeafOf t found (option_map_or (λ body. a_node (forms n) (part_places p body)) body no_value)
      under None = tt
      under (Some body) = tt

  no_leaf_sequence : (t : Structure) (found : Option (Item L)) (form : Form) (body : List PlacedField) (s : Option (Seq L)) → IsLeafOf t found (option_map_or (λ s. a_node form (block_places body (filled_of s))) s no_value)
  no_leaf_sequence t found form body None = tt
  no_leaf_sequence t found form body (Some s) = tt

  leaf_of_kind : (t : Structure) (p : Place L) (found : Option (Item L)) → IsLeafOf t found (seen_by shapes t p found)
  leaf_of_kind no_values p found = tt
  leaf_of_kind (scalar k) p None = tt
  leaf_of_kind (scalar k) p (Some (Leaf x)) = λ is. ap scalar (sym is)
  leaf_of_kind (scalar k) p (Some (Tag n)) = tt
  leaf_of_kind (scalar k) p (Some (Sequence s)) = tt
  leaf_of_kind (plain form body) p found = tt
  leaf_of_kind (tagged forms bodies) p found = no_leaf_tagged (tagged forms bodies) found forms bodies p (tag_of found)
  leaf_of_kind (sequence form ids) p found = no_leaf_sequence (sequence form ids) found form (block_body shapes ids) (sequence_of found)

  leaf_fits : (p : Place L) (x : L) → IsWhole m shapes p → seen shapes p ≡ a_leaf x → structure_at shapes p.shape ≡ scalar (m.kind x)
  unfolding seen
  leaf_fits p x whole is = subst (IsLeafOf (structure_at shapes p.shape) (own_item p)) is (leaf_of_kind (structure_at shapes p.shape) p (own_item p)) whole.item

  pub count_read : (ps : List (Place L)) (vs : Values L) → ReadAll m shapes ps vs → count vs ≡ length ps
  count_read [] none reads = refl
  count_read [] (more v vs) reads = absurd reads
  count_read (p ∷ ps) none reads = absurd reads
  count_read (p ∷ ps) (more v vs) reads = ap suc (count_read ps vs reads.1)

  mutual
    pub reading_fits : (p : Place L) (v : Value L) → Reads m shapes p v → Fits m shapes p.shape v
    reading_fits p (leaf x) reads = leaf_fits p x reads.0 reads.1
    reading_fits p (node form vs) reads =
        let has = shapes_of_seen shapes p form reads.0 reads.2 in
        let same = ap (part_shapes (structure_at shapes p.shape) form) (count_read reads.0 vs reads.3) ∙ has.1 in
        (has.0, subst (λ ss. AllFit m shapes ss vs) (sym same) (readings_fit reads.0 vs reads.3))

    pub readings_fit : (ps : List (Place L)) (vs : Values L) → ReadAll m shapes ps vs → AllFit m shapes (shapes_of ps) vs
    readings_fit [] none reads = tt
    readings_fit [] (more v vs) reads = absurd reads
    readings_fit (p ∷ ps) none reads = absurd reads
    readings_fit (p ∷ ps) (more v vs) reads = (reading_fits p v reads.0, readings_fit ps vs reads.1)

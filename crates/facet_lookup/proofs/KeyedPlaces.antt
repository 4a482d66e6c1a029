-- The keys of a readable map or set stand at the starts of its blocks.
use Rattle.std.specs.Prelude.{Result}
use Rattle.std.proofs.Common.{◌≡◌, ℕ, ◌≤◌, List, [], ◌∷◌, Some, length, slice_get, refl, sym, ap, ◌∙◌, subst, arith, inl, inr, suc, zero}
use Rattle.std.proofs.lemmas.List.{length-map}
use Rattle.facet_base.specs.declared.layout.ShapeId.{ShapeId}
use Rattle.facet_block.specs.Block.{item_kind}
use Rattle.facet_block.specs.Seq.{filled_of}
use Rattle.facet_block.specs.declared.block.Block.{Block}
use Rattle.facet_block.specs.declared.block.Item.{Sequence}
use Rattle.facet_block.specs.declared.block.ItemKind.TheVariants as item
use Rattle.facet_block.specs.declared.block.Seq.{Seq}
use Rattle.facet_contain.proofs.ContainerKinds.{map_is, set_is}
use Rattle.facet_contain.proofs.HeldParts.{one, pairs_there, sequence_there}
use Rattle.facet_leaf.specs.LeafModel.{LeafModel}
use Rattle.facet_lookup.specs.Find.{AreKeys, HasKeys, found_among, key_shape, keys_at, keys_in}
use Rattle.facet_causes.specs.Arrangement.{part_at}
use Rattle.facet_outline.specs.Layout.{value_offset}
use Rattle.facet_shape.specs.declared.shape.Shape.{Shape}
use Rattle.facet_trees.specs.Ascending.{AreAscending}
use Rattle.facet_trees.specs.Structure.{sequence, structure_at}
use Rattle.facet_trees.specs.Value.{Value, Values, depth, every_second, greatest_depth, listed, none, more}
use Rattle.facet_trees.specs.declared.form.Form.TheVariants as form
use Rattle.facet_values.proofs.StructureRows.{sequence_from_reads}
use Rattle.facet_values.proofs.OneReading.{one_value}
use Rattle.facet_values.proofs.ValueAt.{readable_value, value_found}
use Rattle.facet_values.specs.Place.{Place, block_places, own_item, place_in, start_of}
use Rattle.facet_values.specs.Reading.{IsReadable, ReadAll, Reads, value_at}
use Rattle.facet_walk.specs.Look.{pair}
use Rattle.facet_lookup.proofs.KeyShapes.{key_of_items, key_of_pairs}

module _ {L : Type 0} (m : LeafModel L) (shapes : List Shape) where
  -- each block begins with the key that stands at its turn
  abbrev BeginWith : ℕ → List (Block L) → List (Value L) → Type 0
  BeginWith s [] [] = Unit {0}
  BeginWith s (b ∷ bs) (k ∷ ks) = Reads m shapes (start_of s b) k × (depth k ≤ 100) × BeginWith s bs ks
  BeginWith s _ _ = ⊥

  begin_readable : (s : ℕ) (bs : List (Block L)) (ks : List (Value L)) → BeginWith s bs ks → (i : ℕ) (b : Block L) → slice_get bs i ≡ Some b → IsReadable m shapes (start_of s b)
  begin_readable s [] ks r i b e = absurd (cc)
  begin_readable s (c ∷ bs) [] r i b e = absurd r
  begin_readable s (c ∷ bs) (k ∷ ks) r zero b e =
      let same : c ≡ b = cc in subst (λ d. IsReadable m shapes (start_of s d)) same (record { value = k; reads = r.0; shallow = r.1 })
  begin_readable s (c ∷ bs) (k ∷ ks) r (suc i) b e = begin_readable s bs ks r.2 i b e

  begin_values : (s : ℕ) (bs : List (Block L)) (ks : List (Value L)) → BeginWith s bs ks → keys_at shapes s bs ≡ ks
  begin_values s [] [] r = refl
  begin_values s [] (k ∷ ks) r = absurd r
  begin_values s (b ∷ bs) [] r = absurd r
  begin_values s (b ∷ bs) (k ∷ ks) r =
      let e = value_found m shapes 100 (start_of s b) k r.0 r.1 in
      let f = begin_values s bs ks r.2 in
      cc

  items_begin : (id : ShapeId) (bs : List (Block L)) (vs : Values L) → ReadAll m shapes (block_places (one id 0) bs) vs → greatest_depth vs ≤ 100 → BeginWith id.0 bs (listed vs)
  items_begin id [] none r d = tt
  items_begin id [] (more v vs) r d = absurd r
  items_begin id (b ∷ bs) none r d = absurd r
  items_begin id (b ∷ bs) (more v vs) r d = (r.0, omega (arith, d), items_begin id bs vs r.1 (omega (arith, d)))

  keys_begin : (key value : ShapeId) (offset : ℕ) (bs : List (Block L)) (vs : Values L) → ReadAll m shapes (block_places (pair key value offset) bs) vs → greatest_depth vs ≤ 100
      → BeginWith key.0 bs (every_second vs)
  keys_begin key value offset [] none r d = tt
  keys_begin key value offset [] (more k vs) r d = absurd r
  keys_begin key value offset (b ∷ bs) none r d = absurd r
  keys_begin key value offset (b ∷ bs) (more k none) r d = absurd r.1
  keys_begin key value offset (b ∷ bs) (more k (more v vs)) r d = (r.0, omega (arith, d), keys_begin key value offset bs vs r.1.1 (omega (arith, d)))

  -- the keys of the value at a place of a map or a set, in the blocks of its sequence
  pub record HasKeysIn (s : ℕ) (blocks : Seq L) (v : Value L) : Type 0 where
    pub begin : BeginWith s (filled_of blocks) (keys_in v)
    pub ascending : AreAscending m shapes s (keys_in v)

  module _ (p : Place L) (v : Value L) (reads : Reads m shapes p v) (shallow : depth v ≤ 100) (blocks : Seq L) (there : own_item p ≡ Some (Sequence blocks)) where
    set_keys : (item : ShapeId) → structure_at shapes p.shape ≡ sequence form.Set (item ∷ []) → HasKeysIn item.0 blocks v
    set_keys item of =
        let by = sequence_from_reads m shapes p form.Set (item ∷ []) of v reads in
        let same : by.is.blocks ≡ blocks = (let e = by.is.item in cc) in
        let begin = items_begin item (filled_of by.is.blocks) by.parts by.is.reads (omega (arith, shallow, ap depth by.is.value)) in
        subst (HasKeysIn item.0 blocks) (sym by.is.value) (record {
          begin = subst (λ bs. BeginWith item.0 (filled_of bs) (listed by.parts)) same begin;
          ascending = by.ordered;
        })

    map_keys : (key value : ShapeId) → structure_at shapes p.shape ≡ sequence form.Map (key ∷ value ∷ []) → HasKeysIn key.0 blocks v
    map_keys key value of =
        let by = sequence_from_reads m shapes p form.Map (key ∷ value ∷ []) of v reads in
        let same : by.is.blocks ≡ blocks = (let e = by.is.item in cc) in
        let begin = keys_begin key value (value_offset (part_at shapes key) (part_at shapes value)) (filled_of by.is.blocks) by.parts by.is.reads (omega (arith, shallow, ap depth by.is.value)) in
        subst (HasKeysIn key.0 blocks) (sym by.is.value) (record {
          begin = subst (λ bs. BeginWith key.0 (filled_of bs) (every_second by.parts)) same begin;
          ascending = by.ordered;
        })

    has_keys : HasKeys shapes p.shape → HasKeysIn (key_shape shapes p.shape) blocks v
    has_keys (inl of) =
        let (key, (value, is)) = map_is shapes p.shape of in
        subst (λ s. HasKeysIn s blocks v) (sym (key_of_pairs shapes p.shape key value is)) (map_keys key value is)
    has_keys (inr of) =
        let (item, is) = set_is shapes p.shape of in
        subst (λ s. HasKeysIn s blocks v) (sym (key_of_items shapes p.shape item is)) (set_keys item is)

  -- the blocks of a readable map or set
  module _ (p : Place L) (r : IsReadable m shapes p) (blocks : Seq L) (there : own_item p ≡ Some (Sequence blocks)) (of : HasKeys shapes p.shape) where
    abbrev has : HasKeysIn (key_shape shapes p.shape) blocks r.value
    has = has_keys p r.value r.reads r.shallow blocks there of

    pub are_keys : AreKeys m shapes (key_shape shapes p.shape) (filled_of blocks)
    are_keys =
        let s = key_shape shapes p.shape in
        record {
          readable = begin_readable s (filled_of blocks) (keys_in r.value) has.begin;
          ascending = subst (AreAscending m shapes s) (sym (begin_values s (filled_of blocks) (keys_in r.value) has.begin)) has.ascending;
        }

    keys_there : (v : Value L) → Reads m shapes p v → keys_at shapes (key_shape shapes p.shape) (filled_of blocks) ≡ keys_in v
    keys_there v reads = begin_values (key_shape shapes p.shape) (filled_of blocks) (keys_in r.value) has.begin ∙ ap keys_in (one_value m shapes p r.value v r.reads reads)

    pub keys_counted : (v : Value L) → Reads m shapes p v → length (filled_of blocks) ≡ length (keys_in v)
    keys_counted v reads = sym (length-map (filled_of blocks) (λ (b : Block L). value_at shapes 100 (start_of (key_shape shapes p.shape) b))) ∙ ap length (keys_there v reads)

    -- what is found by the values that are found is so by all values that the places read as
    pub found_by : (v : Value L) → Reads m shapes p v → (s : ℕ) → s ≡ key_shape shapes p.shape → (block : Block L) (offset : ℕ) → (key : IsReadable m shapes (place_in (key_shape shapes p.shape) block offset))
        → (k : Value L) → Reads m shapes (place_in (key_shape shapes p.shape) block offset) k
        → (found : Result ℕ ℕ) → found ≡ found_among m shapes s (value_at shapes 100 (place_in s block offset)) (keys_at shapes s (filled_of blocks))
        → found ≡ found_among m shapes (key_shape shapes p.shape) k (keys_in v)
    found_by v reads s same block offset key k key_reads found is =
        let q = place_in (key_shape shapes p.shape) block offset in
        subst (λ t. found ≡ found_among m shapes t (value_at shapes 100 (place_in t block offset)) (keys_at shapes t (filled_of blocks))) same is
        ∙ ap (λ w. found_among m shapes (key_shape shapes p.shape) w (keys_at shapes (key_shape shapes p.shape) (filled_of blocks))) (readable_value m shapes 100 q key ∙ one_value m shapes q key.value k key.reads key_reads)
        ∙ ap (found_among m shapes (key_shape shapes p.shape) k) (keys_there v reads)

  pub sequence_held : (p : Place L) (v : Value L) → HasKeys shapes p.shape → Reads m shapes p v → item_kind (own_item p) ≡ item.Sequence
  sequence_held p v (inl of) reads = let (key, (value, is)) = map_is shapes p.shape of in pairs_there m shapes p form.Map key value is v reads
  sequence_held p v (inr of) reads = let (item, is) = set_is shapes p.shape of in sequence_there m shapes p form.Set item is v reads

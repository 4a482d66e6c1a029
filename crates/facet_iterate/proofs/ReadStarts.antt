-- What is read at the starts of the blocks of lists, sets and maps.
use Rattle.std.proofs.Common.{◌≡◌, ℕ, ◌<◌, ◌≤◌, List, [], ◌∷◌, All, Option, None, Some, length, slice_get, unwrap_or, refl, sym, ap, ◌∙◌, subst, arith}
use Rattle.std.specs.Option.{option_map_or}
use Rattle.std.proofs.lemmas.List.Elements.{All-cons, All-head, All-nil, All-tail}
use Rattle.facet_base.specs.declared.layout.ShapeId.{ShapeId}
use Rattle.facet_block.specs.Block.{size_of}
use Rattle.facet_block.specs.Seq.{filled_of}
use Rattle.facet_block.specs.declared.block.Block.{Block}
use Rattle.facet_block.specs.declared.block.Item.{Sequence}
use Rattle.facet_block.specs.declared.block.Seq.{Seq}
use Rattle.facet_causes.specs.Causes.{IsWellFormed}
use Rattle.facet_causes.specs.Reading.{element_of, kind_in}
use Rattle.facet_contain.proofs.ContainerKinds.{IsSequenceOfOne}
use Rattle.facet_contain.proofs.HeldParts.{element_known, element_shape, one}
use Rattle.facet_contain.specs.Parts.{part_shape, parts_of}
use Rattle.facet_def.specs.declared.def.Def.{Def}
use Rattle.facet_def.specs.declared.def.Def.TheVariants as def
use Rattle.facet_leaf.specs.LeafModel.{LeafModel}
use Rattle.facet_outline.specs.Layout.{value_offset}
use Rattle.facet_outline.specs.declared.placed_fields.PlacedField.{PlacedField}
use Rattle.facet_outline.specs.declared.value_kind.ValueKind.TheVariants as kind
use Rattle.facet_registry.specs.Offsets.{pair_value_offset_at, pair_value_offset_by_def, part_at}
use Rattle.facet_registry.specs.Registry.{kind_at}
use Rattle.facet_shape.specs.declared.shape.Shape.{Shape}
use Rattle.facet_trees.specs.Structure.{block_body, block_size, part_shapes, sequence, structure_at}
use Rattle.facet_trees.specs.Value.{Value, Values, depth, greatest_depth, listed, node, none, more}
use Rattle.facet_trees.specs.declared.form.Form.{Form}
use Rattle.facet_trees.specs.declared.form.Form.TheVariants as form
use Rattle.facet_values.proofs.KindRows.{map_structure}
use Rattle.facet_values.proofs.LaidOut.{laid_out}
use Rattle.facet_values.proofs.StructureRows.{sequence_from_reads}
use Rattle.facet_values.proofs.WholePlaces.{lies_in_block}
use Rattle.facet_values.specs.Laid.{HoldsApart, LieApart}
use Rattle.facet_values.specs.Place.{Place, block_places, own_item}
use Rattle.facet_values.specs.Reading.{IsReadable, IsReadableWithin, ReadAll, Reads}
use Rattle.facet_walk.proofs.SeenKinds.{HasElements, has_elements}
use Rattle.facet_walk.specs.Look.{pair}
use Rattle.facet_iterate.specs.Elements.{LeadToPairs, LeadToValues, Position, ReadInPairs, ReadInTurn, further, place_at, starts, with_values}

module _ {L : Type 0} (m : LeafModel L) (shapes : List Shape) where
  -- the parts of blocks with one part each are read at the starts
  starts_read : (id : ShapeId) (blocks : List (Block L)) (vs : Values L) → ReadAll m shapes (block_places (one id 0) blocks) vs → ReadInTurn m shapes id.0 (starts blocks) (listed vs)
  starts_read id [] none reads = tt
  starts_read id [] (more v vs) reads = absurd reads
  starts_read id (b ∷ blocks) none reads = absurd reads
  starts_read id (b ∷ blocks) (more v vs) reads = (reads.0, starts_read id blocks vs reads.1)

  -- those of blocks with a key and a value each are read at the starts, and so many bytes behind
  pairs_at_starts : (key value : ShapeId) (offset : ℕ) (blocks : List (Block L)) (vs : Values L) → ReadAll m shapes (block_places (pair key value offset) blocks) vs
      → ReadInPairs m shapes key.0 value.0 (with_values offset (starts blocks)) (listed vs)
  pairs_at_starts key value offset [] none reads = tt
  pairs_at_starts key value offset [] (more v vs) reads = absurd reads
  pairs_at_starts key value offset (b ∷ blocks) none reads = absurd reads
  pairs_at_starts key value offset (b ∷ blocks) (more k none) reads = absurd reads.1
  pairs_at_starts key value offset (b ∷ blocks) (more k (more v vs)) reads = (reads.0, reads.1.0, pairs_at_starts key value offset blocks vs reads.1.1)

  -- values lie in their blocks
  values_within : (key value offset : ℕ) (blocks : List (Block L)) (vs : List (Value L)) → ReadInPairs m shapes key value (with_values offset (starts blocks)) vs → All (λ block. offset ≤ size_of block) blocks
  values_within key value offset [] vs reads = All-nil (λ (block : Block L). offset ≤ size_of block)
  values_within key value offset (b ∷ blocks) [] reads = absurd reads
  values_within key value offset (b ∷ blocks) (k ∷ []) reads = absurd reads
  values_within key value offset (b ∷ blocks) (k ∷ v ∷ vs) reads =
      let inside = lies_in_block m shapes (place_at value (further offset (record { block = b; offset = 0 }))) v reads.1 in
      All-cons (λ (block : Block L). offset ≤ size_of block) b blocks (omega (arith, inside)) (values_within key value offset blocks vs reads.2)

  -- what reads as values of few levels
  readable_in_turn : (levels id : ℕ) (ats : List (Position L)) (vs : Values L) → ReadInTurn m shapes id ats (listed vs) → greatest_depth vs ≤ levels → All (λ at. IsReadableWithin m shapes levels (place_at id at)) ats
  readable_in_turn levels id [] vs reads shallow = All-nil (λ (at : Position L). IsReadableWithin m shapes levels (place_at id at))
  readable_in_turn levels id (at ∷ ats) none reads shallow = absurd reads
  readable_in_turn levels id (at ∷ ats) (more v vs) reads shallow =
      All-cons (λ (at : Position L). IsReadableWithin m shapes levels (place_at id at)) at ats
      (record { value = v; reads = reads.0; shallow = omega (arith, shallow) })
      (readable_in_turn levels id ats vs reads.1 (omega (arith, shallow)))

  module _ (levels key value : ℕ) where
    abbrev KeyIsReadable : Position L × Position L → Type 0
    KeyIsReadable pair = IsReadableWithin m shapes levels (place_at key pair.0)

    abbrev ValueIsReadable : Position L × Position L → Type 0
    ValueIsReadable pair = IsReadableWithin m shapes levels (place_at value pair.1)

    readable_in_pairs : (pairs : List (Position L × Position L)) (vs : Values L) → ReadInPairs m shapes key value pairs (listed vs) → greatest_depth vs ≤ levels → All KeyIsReadable pairs × All ValueIsReadable pairs
    readable_in_pairs [] vs reads shallow = (All-nil KeyIsReadable, All-nil ValueIsReadable)
    readable_in_pairs (at ∷ pairs) none reads shallow = absurd reads
    readable_in_pairs (at ∷ pairs) (more k none) reads shallow = absurd reads
    readable_in_pairs (at ∷ pairs) (more k (more v vs)) reads shallow =
        let (keys, values) = readable_in_pairs pairs vs reads.2 (omega (arith, shallow)) in (
          All-cons KeyIsReadable at pairs (record { value = k; reads = reads.0; shallow = omega (arith, shallow) }) keys,
          All-cons ValueIsReadable at pairs (record { value = v; reads = reads.1; shallow = omega (arith, shallow) }) values,
        )

-- a map: the shapes of its keys and values, and where in a pair the value begins
pub record IsMap (shapes : List Shape) (s : ℕ) : Type 0 where
  pub key : ShapeId
  pub value : ShapeId
  pub structure : structure_at shapes s ≡ sequence form.Map (key ∷ value ∷ [])
  pub offset : pair_value_offset_at shapes s ≡ value_offset (part_at shapes key) (part_at shapes value)

module _ (shapes : List Shape) (s : ℕ) where
  map_by : (shape : Shape) → slice_get shapes s ≡ Some shape → kind_in shapes shape ≡ kind.Map → (d : Def) → shape.def ≡ d → HasElements kind.Map d → IsMap shapes s
  map_by shape found of (def.Map d) same has = record {
    key = d.k;
    value = d.v;
    structure = map_structure shapes s shape found d of same;
    offset = ap (λ o. option_map_or (λ (t : Shape). pair_value_offset_by_def shapes t.def) o 0) found ∙ ap (pair_value_offset_by_def shapes) same;
  }
  map_by shape found of _ same has = absurd has

  pub is_map : kind_at shapes s ≡ kind.Map → IsMap shapes s
  is_map of = go (slice_get shapes s) refl of
    where
      go : (o : Option Shape) → slice_get shapes s ≡ o → option_map_or (kind_in shapes) o kind.NoValue ≡ kind.Map → IsMap shapes s
      go None found of = absurd (cc)
      go (Some shape) found of = map_by shape found of shape.def refl (subst (λ k. HasElements k shape.def) of (has_elements (element_of shapes shape.def) shape))

module _ {L : Type 0} {m : LeafModel L} {shapes : List Shape} {p : Place L} (r : IsReadable m shapes p) (blocks : Seq L) (there : own_item p ≡ Some (Sequence blocks)) where
  -- a list or a set
  module _ (form : Form) (is : IsSequenceOfOne shapes p.shape form) where
    -- the parts of a value, as they are read at the starts of the blocks
    record HasElementsAs (v : Value L) : Type 0 where
      parts : Values L
      are : v ≡ node form parts
      read : ReadInTurn m shapes is.0.0 (starts (filled_of blocks)) (listed parts)

    elements_of : (v : Value L) → Reads m shapes p v → HasElementsAs v
    elements_of v reads =
        let by = sequence_from_reads m shapes p form (is.0 ∷ []) is.1 v reads in
        let same : by.is.blocks ≡ blocks = (let e = by.is.item in cc) in
        record {
          parts = by.parts;
          are = by.is.value;
          read = subst (λ bs. ReadInTurn m shapes is.0.0 (starts (filled_of bs)) (listed by.parts)) same (starts_read m shapes is.0 (filled_of by.is.blocks) by.parts by.is.reads);
        }

    shape_is : is.0.0 ≡ part_shape shapes p.shape form 0
    shape_is = sym (element_shape m shapes p form is.0 is.1 0)

    module _ (ats : List (Position L)) (at : ats ≡ starts (filled_of blocks)) where
      pub elements_read : (v : Value L) → Reads m shapes p v → ReadInTurn m shapes (part_shape shapes p.shape form 0) ats (parts_of v)
      elements_read v reads =
          let has = elements_of v reads in
          subst (λ w. ReadInTurn m shapes (part_shape shapes p.shape form 0) ats (parts_of w)) (sym has.are)
          (subst (λ id. ReadInTurn m shapes id ats (listed has.parts)) shape_is (subst (λ here. ReadInTurn m shapes is.0.0 here (listed has.parts)) (sym at) has.read))

      pub elements_lead : IsWellFormed m shapes → p.shape < length shapes → LeadToValues m shapes (part_shape shapes p.shape form 0) ats
      elements_lead well known =
          let has = elements_of r.value r.reads in
          subst (λ id. LeadToValues m shapes id ats) shape_is (record {
            sealed = element_known m shapes p form is.0 is.1 (laid_out m shapes well p.shape known);
            readable = readable_in_turn m shapes 100 is.0.0 ats has.parts (subst (λ here. ReadInTurn m shapes is.0.0 here (listed has.parts)) (sym at) has.read) (omega (arith, r.shallow, ap depth has.are));
          })

  -- a map
  module _ (is : IsMap shapes p.shape) where
    record HasPairsAs (v : Value L) : Type 0 where
      parts : Values L
      are : v ≡ node form.Map parts
      read : ReadInPairs m shapes is.key.0 is.value.0 (with_values (pair_value_offset_at shapes p.shape) (starts (filled_of blocks))) (listed parts)

    pairs_of : (v : Value L) → Reads m shapes p v → HasPairsAs v
    pairs_of v reads =
        let by = sequence_from_reads m shapes p form.Map (is.key ∷ is.value ∷ []) is.structure v reads in
        let same : by.is.blocks ≡ blocks = (let e = by.is.item in cc) in
        record {
          parts = by.parts;
          are = by.is.value;
          read =
              subst (λ offset. ReadInPairs m shapes is.key.0 is.value.0 (with_values offset (starts (filled_of blocks))) (listed by.parts)) (sym is.offset)
              (subst (λ bs. ReadInPairs m shapes is.key.0 is.value.0 (with_values (value_offset (part_at shapes is.key) (part_at shapes is.value)) (starts (filled_of bs))) (listed by.parts)) same
              (pairs_at_starts m shapes is.key is.value (value_offset (part_at shapes is.key) (part_at shapes is.value)) (filled_of by.is.blocks) by.parts by.is.reads));
        }

    key_is : is.key.0 ≡ part_shape shapes p.shape form.Map 0
    key_is = sym (ap (λ st. unwrap_or (slice_get (part_shapes st form.Map 1) 0) 0) is.structure)

    value_is : is.value.0 ≡ part_shape shapes p.shape form.Map 1
    value_is = sym (ap (λ st. unwrap_or (slice_get (part_shapes st form.Map 2) 1) 0) is.structure)

    module _ (offset : ℕ) (behind : offset ≡ pair_value_offset_at shapes p.shape) where
      pub values_inside : All (λ block. offset ≤ size_of block) (filled_of blocks)
      values_inside =
          let has = pairs_of r.value r.reads in
          subst (λ n. All (λ (block : Block L). n ≤ size_of block) (filled_of blocks)) (sym behind)
          (values_within m shapes is.key.0 is.value.0 (pair_value_offset_at shapes p.shape) (filled_of blocks) (listed has.parts) has.read)

      module _ (pairs : List (Position L × Position L)) (at : pairs ≡ with_values offset (starts (filled_of blocks))) where
        read_at : (v : Value L) (has : HasPairsAs v) → ReadInPairs m shapes is.key.0 is.value.0 pairs (listed has.parts)
        read_at v has =
            subst (λ here. ReadInPairs m shapes is.key.0 is.value.0 here (listed has.parts)) (sym (at ∙ ap (λ n. with_values n (starts (filled_of blocks))) behind)) has.read

        pub pairs_read : (v : Value L) → Reads m shapes p v → ReadInPairs m shapes (part_shape shapes p.shape form.Map 0) (part_shape shapes p.shape form.Map 1) pairs (parts_of v)
        pairs_read v reads =
            let has = pairs_of v reads in
            subst (λ w. ReadInPairs m shapes (part_shape shapes p.shape form.Map 0) (part_shape shapes p.shape form.Map 1) pairs (parts_of w)) (sym has.are)
            (subst (λ id. ReadInPairs m shapes (part_shape shapes p.shape form.Map 0) id pairs (listed has.parts)) value_is
            (subst (λ id. ReadInPairs m shapes id is.value.0 pairs (listed has.parts)) key_is (read_at v has)))

        pub pairs_lead : IsWellFormed m shapes → p.shape < length shapes → LeadToPairs m shapes (part_shape shapes p.shape form.Map 0) (part_shape shapes p.shape form.Map 1) pairs
        pairs_lead well known =
            let has = pairs_of r.value r.reads in
            let (keys, values) = readable_in_pairs m shapes 100 is.key.0 is.value.0 pairs has.parts (read_at r.value has) (omega (arith, r.shallow, ap depth has.are)) in
            let laid : LieApart shapes (block_size shapes (is.key ∷ is.value ∷ [])) (block_body shapes (is.key ∷ is.value ∷ [])) = subst (HoldsApart shapes) is.structure (laid_out m shapes well p.shape known).blocks in
            let second : PlacedField = record { shape = is.value; offset = value_offset (part_at shapes is.key) (part_at shapes is.value) } in
            subst (λ id. LeadToPairs m shapes (part_shape shapes p.shape form.Map 0) id pairs) value_is
            (subst (λ id. LeadToPairs m shapes id is.value.0 pairs) key_is (record {
              sealed_key = All-head (λ part. part.shape.0 < length shapes) (record { shape = is.key; offset = 0 }) (second ∷ []) laid.known;
              sealed_value = All-head (λ part. part.shape.0 < length shapes) second [] (All-tail (λ part. part.shape.0 < length shapes) (record { shape = is.key; offset = 0 }) (second ∷ []) laid.known);
              keys = keys;
              values = values;
            }))

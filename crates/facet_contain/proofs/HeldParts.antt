-- The parts of the value at a place, and pointers to where they lie, by the structure of the values of the shape.
use Rattle.std.proofs.Common.{◌≡◌, ℕ, zero, suc, ◌+◌, ◌*◌, ◌<◌, ◌≤◌, ◌==◌, true, not, List, [], ◌∷◌, All, Option, None, Some, length, option_map, slice_get, unwrap_or, refl, sym, ap, ◌∙◌, subst, arith}
use Rattle.std.specs.Prelude.{IfSome}
use Rattle.std.proofs.lemmas.Bool.{ne_eqb}
use Rattle.std.proofs.lemmas.List.Elements.{All-head}
use Rattle.facet_base.proofs.Lists.{All_at}
use Rattle.facet_base.specs.declared.layout.ShapeId.{ShapeId}
use Rattle.facet_block.specs.declared.block.Block.{Block}
use Rattle.facet_block.specs.declared.block.Item.{Sequence, Tag}
use Rattle.facet_block.specs.declared.block.ItemKind.TheVariants as item
use Rattle.facet_block.specs.declared.block.Seq.{Seq}
use Rattle.facet_block.specs.declared.ptr_const.PtrConst.{PtrConst}
use Rattle.facet_block.specs.Block.{item_kind, size_of}
use Rattle.facet_block.specs.Seq.{filled_of}
use Rattle.facet_leaf.specs.LeafModel.{LeafModel}
use Rattle.facet_causes.specs.Arrangement.{part_at}
use Rattle.facet_outline.specs.Layout.{value_offset}
use Rattle.facet_outline.specs.declared.placed_fields.PlacedField.{PlacedField}
use Rattle.facet_registry.specs.Registry.{size_at}
use Rattle.facet_shape.specs.declared.shape.Shape.{Shape}
use Rattle.facet_trees.specs.Structure.{block_body, block_size, in_turn, option_form, part_shapes, result_form, sequence, structure_at, tagged}
use Rattle.facet_trees.specs.Value.{Value, Values, depth, greatest_depth, leaf, listed, node, none, more}
use Rattle.facet_trees.specs.declared.form.Form.{Form}
use Rattle.facet_trees.specs.declared.form.Form.TheVariants as form
use Rattle.facet_values.proofs.StructureRows.{sequence_from_reads, tagged_from_reads}
use Rattle.facet_values.proofs.WholePlaces.{lies_in_block}
use Rattle.facet_values.specs.Laid.{HoldsApart, IsLaidOut, LieApart, bodies_of}
use Rattle.facet_values.specs.Place.{Place, block_places, own_item, part_places, place_in, start_of}
use Rattle.facet_values.specs.Reading.{ReadAll, Reads}
use Rattle.facet_contain.specs.Parts.{LeadsToValue, Points, is_err, is_ok, is_present, part_shape, parts_of, variant_in}

-- one part at an offset, and nothing else
abbrev pub one : ShapeId → ℕ → List PlacedField
one part offset = record { shape = part; offset = offset } ∷ []

module _ {L : Type 0} where
  -- where a pointer points, read by a shape
  abbrev pub place_at : ℕ → PtrConst L → Place L
  place_at id q = place_in id q.block.now q.offset

  -- a part has fewer levels than the value
  part_depth : (vs : Values L) (i : ℕ) (w : Value L) → slice_get (listed vs) i ≡ Some w → depth w ≤ greatest_depth vs
  part_depth none i w is = absurd (cc)
  part_depth (more v vs) zero w is = let same : v ≡ w = cc in let e = ap depth same in omega arith
  part_depth (more v vs) (suc i) w is = omega (arith, part_depth vs i w is)

  depth_of_part : (v : Value L) (i : ℕ) (w : Value L) → slice_get (parts_of v) i ≡ Some w → depth w < depth v
  depth_of_part (leaf x) i w is = absurd (cc)
  depth_of_part (node form vs) i w is = omega (arith, part_depth vs i w is)

  -- the place of element i is the start of block i
  element_place : (id : ShapeId) (blocks : List (Block L)) (i : ℕ) → slice_get (block_places (one id 0) blocks) i ≡ option_map (start_of id.0) (slice_get blocks i)
  element_place id [] i = refl
  element_place id (b ∷ blocks) zero = refl
  element_place id (b ∷ blocks) (suc i) = element_place id blocks i

  -- there are as many as blocks
  count_elements : (id : ShapeId) (blocks : List (Block L)) → length (block_places (one id 0) blocks) ≡ length blocks
  count_elements id [] = refl
  count_elements id (b ∷ blocks) = ap suc (count_elements id blocks)

  count_pairs : (key value : PlacedField) (blocks : List (Block L)) → length (block_places (key ∷ value ∷ []) blocks) ≡ 2 * length blocks
  count_pairs key value [] = refl
  count_pairs key value (b ∷ blocks) = omega (arith, count_pairs key value blocks)

  -- a pointer to the start of a block, whatever shape it is read by
  start_by : (id : ℕ) (q : Option (PtrConst L)) (block : Option (Block L)) → option_map (place_at 0) q ≡ option_map (start_of 0) block → option_map (place_at id) q ≡ option_map (start_of id) block
  start_by id None None is = refl
  start_by id None (Some b) is = absurd (cc)
  start_by id (Some q) None is = absurd (cc)
  start_by id (Some q) (Some b) is = ap (option_map (λ (p : Place L). place_in id p.block p.offset)) is

-- each part in turn has the one shape
pub turn_of_one : (id i : ℕ) → slice_get (in_turn (id ∷ []) (suc i)) i ≡ Some id
turn_of_one id zero = refl
turn_of_one id (suc i) = turn_of_one id i

module _ {L : Type 0} (m : LeafModel L) (shapes : List Shape) where
  -- what lies at an index is what the place at the index reads as
  abbrev pub ReadsAs : Option (Place L) → Option (Value L) → Type 0
  ReadsAs (Some p) (Some v) = Reads m shapes p v
  ReadsAs None None = Unit {0}
  ReadsAs _ _ = ⊥

  part_reads : (ps : List (Place L)) (vs : Values L) → ReadAll m shapes ps vs → (i : ℕ) → ReadsAs (slice_get ps i) (slice_get (listed vs) i)
  part_reads [] none reads i = tt
  part_reads [] (more v vs) reads i = absurd reads
  part_reads (p ∷ ps) none reads i = absurd reads
  part_reads (p ∷ ps) (more v vs) reads zero = reads.0
  part_reads (p ∷ ps) (more v vs) reads (suc i) = part_reads ps vs reads.1 i

  -- as many parts as places
  count_parts : (ps : List (Place L)) (vs : Values L) → ReadAll m shapes ps vs → length ps ≡ length (listed vs)
  count_parts [] none reads = refl
  count_parts [] (more v vs) reads = absurd reads
  count_parts (p ∷ ps) none reads = absurd reads
  count_parts (p ∷ ps) (more v vs) reads = ap suc (count_parts ps vs reads.1)

  pub points_by : (id : ℕ) (place : Option (Place L)) (part : Option (Value L)) (q : Option (PtrConst L)) → ReadsAs place part → option_map (place_at id) q ≡ place → Points m shapes id part q
  points_by id None None None reads is = tt
  points_by id None None (Some q) reads is = absurd (cc)
  points_by id None (Some v) q reads is = absurd reads
  points_by id (Some p) None q reads is = absurd reads
  points_by id (Some p) (Some v) None reads is = absurd (cc)
  points_by id (Some p) (Some v) (Some q) reads is =
      let same : p ≡ place_at id q = cc in subst (λ place. Reads m shapes place v) same reads

  -- a pointer to a part of a value that calls may go into leads to another one
  pub leads_to : (id : ℕ) (v : Value L) (i : ℕ) (q : Option (PtrConst L)) → id < length shapes → depth v ≤ 100 → Points m shapes id (slice_get (parts_of v) i) q → IfSome q (LeadsToValue m shapes id)
  leads_to id v i None known shallow points = tt
  leads_to id v i (Some q) known shallow points = go (slice_get (parts_of v) i) refl points
    where
      go : (part : Option (Value L)) → slice_get (parts_of v) i ≡ part → Points m shapes id part (Some q) → LeadsToValue m shapes id q
      go None is points = absurd points
      go (Some w) is points = record { sealed = known; readable = record { value = w; reads = points; shallow = omega (arith, depth_of_part v i w is) } }

  -- sequences whose blocks have one part each
  module _ (p : Place L) (form : Form) (element : ShapeId) (of : structure_at shapes p.shape ≡ sequence form (element ∷ [])) where
    pub element_shape : (i : ℕ) → part_shape shapes p.shape form i ≡ element.0
    element_shape i = ap (λ st. unwrap_or (slice_get (part_shapes st form (suc i)) i) 0) of ∙ ap (λ o. unwrap_or o 0) (turn_of_one element.0 i)

    pub element_known : IsLaidOut shapes p.shape → element.0 < length shapes
    element_known laid =
        let holds : LieApart shapes (block_size shapes (element ∷ [])) (one element 0) = subst (HoldsApart shapes) of laid.blocks in
        All-head (λ part. part.shape.0 < length shapes) (record { shape = element; offset = 0 }) [] holds.known

    module _ (v : Value L) (reads : Reads m shapes p v) (blocks : Seq L) (there : own_item p ≡ Some (Sequence blocks)) where
      abbrev places : List (Place L)
      places = block_places (one element 0) (filled_of blocks)

      -- the places of the elements read as the parts
      elements_read : (parts : Values L) × ReadAll m shapes places parts × (parts_of v ≡ listed parts)
      elements_read =
          let by = sequence_from_reads m shapes p form (element ∷ []) of v reads in
          let same : by.is.blocks ≡ blocks = (let e = by.is.item in cc) in (
            by.parts,
            subst (λ bs. ReadAll m shapes (block_places (one element 0) (filled_of bs)) by.parts) same by.is.reads,
            ap parts_of by.is.value,
          )

      pub elements_counted : length (filled_of blocks) ≡ length (parts_of v)
      elements_counted =
          let (parts, all, are) = elements_read in
          sym (count_elements element (filled_of blocks)) ∙ count_parts places parts all ∙ ap length (sym are)

      pub element_points : (i : ℕ) (q : Option (PtrConst L)) → option_map (place_at 0) q ≡ option_map (start_of 0) (slice_get (filled_of blocks) i)
          → Points m shapes element.0 (slice_get (parts_of v) i) q
      element_points i q starts =
          let (parts, all, are) = elements_read in
          subst (λ vs. Points m shapes element.0 (slice_get vs i) q) (sym are)
          (points_by element.0 (slice_get places i) (slice_get (listed parts) i) q (part_reads places parts all i)
          (start_by element.0 q (slice_get (filled_of blocks) i) starts ∙ sym (element_place element (filled_of blocks) i)))

    pub sequence_there : (v : Value L) → Reads m shapes p v → item_kind (own_item p) ≡ item.Sequence
    sequence_there v reads = ap item_kind (sequence_from_reads m shapes p form (element ∷ []) of v reads).is.item

  -- sequences whose blocks have two parts each
  module _ (p : Place L) (form : Form) (key value : ShapeId) (of : structure_at shapes p.shape ≡ sequence form (key ∷ value ∷ [])) (v : Value L) (reads : Reads m shapes p v) where
    pub pairs_there : item_kind (own_item p) ≡ item.Sequence
    pairs_there = ap item_kind (sequence_from_reads m shapes p form (key ∷ value ∷ []) of v reads).is.item

    pub pairs_counted : (blocks : Seq L) → own_item p ≡ Some (Sequence blocks) → 2 * length (filled_of blocks) ≡ length (parts_of v)
    pairs_counted blocks there =
        let by = sequence_from_reads m shapes p form (key ∷ value ∷ []) of v reads in
        let same : by.is.blocks ≡ blocks = (let e = by.is.item in cc) in
        ap (λ bs. 2 * length (filled_of bs)) (sym same)
        ∙ sym (count_pairs (record { shape = key; offset = 0 }) (record { shape = value; offset = value_offset (part_at shapes key) (part_at shapes value) }) (filled_of by.is.blocks))
        ∙ count_parts (block_places (block_body shapes (key ∷ value ∷ [])) (filled_of by.is.blocks)) by.parts by.is.reads
        ∙ ap (λ w. length (parts_of w)) (sym by.is.value)

  -- values behind a tag
  module _ (p : Place L) (forms : ℕ → Form) (bodies : List (List PlacedField)) (of : structure_at shapes p.shape ≡ tagged forms bodies) (v : Value L) (reads : Reads m shapes p v) where
    pub tag_there : item_kind (own_item p) ≡ item.Tag
    tag_there = ap item_kind (tagged_from_reads m shapes p forms bodies of v reads).is.item

    -- the value under a tag that lies there
    pub under_tag : (tag : ℕ) → own_item p ≡ Some (Tag tag) →
        (body : List PlacedField) × (slice_get bodies tag ≡ Some body) × ((parts : Values L) × ReadAll m shapes (part_places p body) parts × (v ≡ node (forms tag) parts))
    under_tag tag there =
        let by = tagged_from_reads m shapes p forms bodies of v reads in
        let same : by.tag ≡ tag = (let e = by.is.item in cc) in (
          by.body,
          ap (slice_get bodies) (sym same) ∙ by.there,
          (by.is.behind.parts, by.is.behind.reads, by.is.behind.value ∙ ap (λ t. node (forms t) by.is.behind.parts) same),
        )

  -- a part behind a tag
  module _ (p : Place L) (forms : ℕ → Form) (bodies : List (List PlacedField)) (of : structure_at shapes p.shape ≡ tagged forms bodies) where
    pub behind_known : IsLaidOut shapes p.shape → (tag : ℕ) (part : ShapeId) (offset : ℕ) → slice_get bodies tag ≡ Some (one part offset) → part.0 < length shapes
    behind_known laid tag part offset there =
        let all : All (LieApart shapes (size_at shapes p.shape)) bodies = subst (λ st. All (LieApart shapes (size_at shapes p.shape)) (bodies_of st)) of laid.bodies in
        let apart = All_at (LieApart shapes (size_at shapes p.shape)) bodies tag (one part offset) all there in
        All-head (λ x. x.shape.0 < length shapes) (record { shape = part; offset = offset }) [] apart.known

  -- the one part behind a tag is the first part of the value
  module _ (p : Place L) (part : ShapeId) (offset : ℕ) where
    behind : (parts : Values L) (body : List PlacedField) → body ≡ one part offset → ReadAll m shapes (part_places p body) parts
        → ReadsAs (Some (place_in part.0 p.block (p.offset + offset))) (slice_get (listed parts) 0)
    behind parts body same reads = part_reads (part_places p (one part offset)) parts (subst (λ b. ReadAll m shapes (part_places p b) parts) same reads) 0

    -- an option
    module _ (of : structure_at shapes p.shape ≡ tagged option_form ([] ∷ one part offset ∷ [])) where
      pub present_shape : part_shape shapes p.shape form.Present 0 ≡ part.0
      present_shape = ap (λ st. unwrap_or (slice_get (part_shapes st form.Present 1) 0) 0) of

      pub option_test : (v : Value L) → Reads m shapes p v → (tag : ℕ) → own_item p ≡ Some (Tag tag) → is_present v ≡ (tag == 1)
      option_test v reads tag there =
          let (body, under, (parts, all, is)) = under_tag p option_form ([] ∷ one part offset ∷ []) of v reads tag there in
          ap is_present is ∙ go tag body parts under
        where
          go : (tag : ℕ) (body : List PlacedField) (parts : Values L) → slice_get ([] ∷ one part offset ∷ []) tag ≡ Some body → is_present (node (option_form tag) parts) ≡ (tag == 1)
          go zero body parts under = refl
          go (suc zero) body parts under = refl
          go (suc (suc n)) body parts under = absurd (cc)

      pub present_reads : (v : Value L) → Reads m shapes p v → is_present v ≡ true → ReadsAs (Some (place_in part.0 p.block (p.offset + offset))) (slice_get (parts_of v) 0)
      present_reads v reads present =
          let by = tagged_from_reads m shapes p option_form ([] ∷ one part offset ∷ []) of v reads in
          subst (λ w. ReadsAs (Some (place_in part.0 p.block (p.offset + offset))) (slice_get (parts_of w) 0)) (sym by.is.behind.value)
          (go by.tag by.body by.there by.is.behind.parts by.is.behind.reads (sym (ap is_present by.is.behind.value) ∙ present))
        where
          go : (tag : ℕ) (body : List PlacedField) → slice_get ([] ∷ one part offset ∷ []) tag ≡ Some body → (parts : Values L) → ReadAll m shapes (part_places p body) parts
              → is_present (node (option_form tag) parts) ≡ true → ReadsAs (Some (place_in part.0 p.block (p.offset + offset))) (slice_get (listed parts) 0)
          go zero body there parts all is = absurd (cc)
          go (suc zero) body there parts all is = let same : body ≡ one part offset = cc in behind parts body same all
          go (suc (suc n)) body there parts all is = absurd (cc)

  -- a result
  module _ (p : Place L) (value error : ShapeId) (offset : ℕ) (of : structure_at shapes p.shape ≡ tagged result_form (one value offset ∷ one error offset ∷ [])) where
    abbrev both : List (List PlacedField)
    both = one value offset ∷ one error offset ∷ []

    pub ok_shape : part_shape shapes p.shape form.Ok 0 ≡ value.0
    ok_shape = ap (λ st. unwrap_or (slice_get (part_shapes st form.Ok 1) 0) 0) of

    pub err_shape : part_shape shapes p.shape form.Err 0 ≡ error.0
    err_shape = ap (λ st. unwrap_or (slice_get (part_shapes st form.Err 1) 0) 0) of

    pub result_test : (v : Value L) → Reads m shapes p v → (tag : ℕ) → own_item p ≡ Some (Tag tag) → is_ok v ≡ (tag == 0)
    result_test v reads tag there =
        let (body, under, (parts, all, is)) = under_tag p result_form both of v reads tag there in
        ap is_ok is ∙ go tag body parts under
      where
        go : (tag : ℕ) (body : List PlacedField) (parts : Values L) → slice_get both tag ≡ Some body → is_ok (node (result_form tag) parts) ≡ (tag == 0)
        go zero body parts under = refl
        go (suc n) body parts under = sym (ne_eqb (suc n) 0 (omega arith))

    -- it is Ok or an error
    pub one_of_two : (v : Value L) → Reads m shapes p v → is_err v ≡ not (is_ok v)
    one_of_two v reads =
        let by = tagged_from_reads m shapes p result_form both of v reads in
        ap is_err by.is.behind.value ∙ go by.tag by.is.behind.parts ∙ ap (λ w. not (is_ok w)) (sym by.is.behind.value)
      where
        go : (tag : ℕ) (parts : Values L) → is_err (node (result_form tag) parts) ≡ not (is_ok (node (result_form tag) parts))
        go zero parts = refl
        go (suc n) parts = refl

    pub ok_reads : (v : Value L) → Reads m shapes p v → is_ok v ≡ true → ReadsAs (Some (place_in value.0 p.block (p.offset + offset))) (slice_get (parts_of v) 0)
    ok_reads v reads is =
        let by = tagged_from_reads m shapes p result_form both of v reads in
        subst (λ w. ReadsAs (Some (place_in value.0 p.block (p.offset + offset))) (slice_get (parts_of w) 0)) (sym by.is.behind.value)
        (go by.tag by.body by.there by.is.behind.parts by.is.behind.reads (sym (ap is_ok by.is.behind.value) ∙ is))
      where
        go : (tag : ℕ) (body : List PlacedField) → slice_get both tag ≡ Some body → (parts : Values L) → ReadAll m shapes (part_places p body) parts
            → is_ok (node (result_form tag) parts) ≡ true → ReadsAs (Some (place_in value.0 p.block (p.offset + offset))) (slice_get (listed parts) 0)
        go zero body there parts all is = let same : body ≡ one value offset = cc in behind p value offset parts body same all
        go (suc n) body there parts all is = absurd (cc)

    pub err_reads : (v : Value L) → Reads m shapes p v → is_err v ≡ true → ReadsAs (Some (place_in error.0 p.block (p.offset + offset))) (slice_get (parts_of v) 0)
    err_reads v reads is =
        let by = tagged_from_reads m shapes p result_form both of v reads in
        subst (λ w. ReadsAs (Some (place_in error.0 p.block (p.offset + offset))) (slice_get (parts_of w) 0)) (sym by.is.behind.value)
        (go by.tag by.body by.there by.is.behind.parts by.is.behind.reads (sym (ap is_err by.is.behind.value) ∙ is))
      where
        go : (tag : ℕ) (body : List PlacedField) → slice_get both tag ≡ Some body → (parts : Values L) → ReadAll m shapes (part_places p body) parts
            → is_err (node (result_form tag) parts) ≡ true → ReadsAs (Some (place_in error.0 p.block (p.offset + offset))) (slice_get (listed parts) 0)
        go zero body there parts all is = absurd (cc)
        go (suc zero) body there parts all is = let same : body ≡ one error offset = cc in behind p error offset parts body same all
        go (suc (suc n)) body there parts all is = absurd (cc)

  -- where the part that a pointer leads to begins in the block
  pub begins_inside : (place : Place L) (part : Option (Value L)) → ReadsAs (Some place) part → place.offset ≤ size_of place.block
  begins_inside place None reads = absurd reads
  begins_inside place (Some v) reads = omega (arith, lies_in_block m shapes place v reads)

  -- the variant of an enum
  pub variant_is : (p : Place L) (bodies : List (List PlacedField)) → structure_at shapes p.shape ≡ tagged form.Variant bodies → (v : Value L) → Reads m shapes p v → (tag : ℕ) → own_item p ≡ Some (Tag tag)
      → variant_in v ≡ Some tag
  variant_is p bodies of v reads tag there =
      let (body, under, (parts, all, is)) = under_tag p form.Variant bodies of v reads tag there in ap variant_in is

  -- the one block of a box
  pub box_filled : (p : Place L) (element : ShapeId) → structure_at shapes p.shape ≡ sequence form.Box (element ∷ []) → (v : Value L) → Reads m shapes p v → (blocks : Seq L) → own_item p ≡ Some (Sequence blocks)
      → length (filled_of blocks) ≡ 1
  box_filled p element of v reads blocks there =
      let by = sequence_from_reads m shapes p form.Box (element ∷ []) of v reads in
      let same : by.is.blocks ≡ blocks = (let e = by.is.item in cc) in
      ap (λ bs. length (filled_of bs)) (sym same) ∙ by.many

  -- a pointer so many bytes behind a place
  pub points_behind : (p : Place L) (shape id offset : ℕ) → shape ≡ id → (part : Option (Value L)) → ReadsAs (Some (place_in id p.block (p.offset + offset))) part → (q : PtrConst L)
      → q.block.now ≡ p.block → q.offset ≡ p.offset + offset → Points m shapes shape part (Some q)
  points_behind p shape id offset same part reads q block at =
      let place : place_at id q ≡ place_in id p.block (p.offset + offset) = ap (λ b. place_in id b q.offset) block ∙ ap (place_in id p.block) at in
      subst (λ n. Points m shapes n part (Some q)) (sym same) (points_by id (Some (place_in id p.block (p.offset + offset))) part (Some q) reads (ap Some place))

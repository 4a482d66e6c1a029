-- Two lists of shapes that say the same of their first shapes: places of these read as the same by both.
use Rattle.std.proofs.Common.{◌≡◌, ℕ, ◌+◌, ◌<◌, ◌≤◌, ◌&&◌, ℤ, pos, List, [], ◌∷◌, All, Option, None, Some, get_or, slice_get, unwrap_or, refl, sym, ap, ◌∙◌, subst}
use Rattle.std.specs.List.{list_all}
use Rattle.std.specs.Option.{option_map_or}
use Rattle.std.specs.Ordering.{int_cmp}
use Rattle.std.proofs.lemmas.List.Elements.{All-cons, All-head, All-map, All-nil, All-tail}
use Rattle.facet_base.proofs.Lists.{All_at}
use Rattle.facet_base.specs.declared.characteristic.Characteristic.{Characteristic}
use Rattle.facet_base.specs.declared.layout.ShapeId.{ShapeId}
use Rattle.facet_leaf.specs.LeafModel.{LeafModel}
use Rattle.facet_block.specs.Block.{empty_block, sequence_of, size_of, tag_of}
use Rattle.facet_block.specs.Seq.{filled_of, spare_of}
use Rattle.facet_block.specs.declared.block.Block.{Block}
use Rattle.facet_block.specs.declared.block.Item.{Item, Leaf, Tag, Sequence}
use Rattle.facet_block.specs.declared.block.Seq.{Seq}
use Rattle.facet_causes.specs.Arrangement.{part_at}
use Rattle.facet_causes.specs.DistinctVariants.{discriminants_in}
use Rattle.facet_outline.specs.Layout.{pair_layout, value_offset}
use Rattle.facet_outline.specs.declared.placed_fields.PlacedField.{PlacedField}
use Rattle.facet_registry.specs.Registry.{offers, size_at}
use Rattle.facet_shape.specs.declared.shape.Shape.{Shape}
use Rattle.facet_trees.specs.Answered.{answer_if, is_answered, is_comparable, rank_at}
use Rattle.facet_trees.specs.Ascending.{IsInOrder}
use Rattle.facet_trees.specs.Order.{Which, by_total, capability_of, order_of_leaves, order_then, ordered, ordering, ordering_of_parts}
use Rattle.facet_trees.specs.Structure.{Structure, no_values, plain, scalar, sequence, tagged, block_body, block_size, body_under, part_shapes, structure_at, tag_of_form}
use Rattle.facet_trees.specs.Value.{Value, Values, leaf, node, none, more, count}
use Rattle.facet_trees.specs.declared.form.Form.{Form}
use Rattle.facet_trees.specs.declared.form.Form.TheVariants as form
use Rattle.std.specs.declared.cmp.Ordering.TheVariants.{Less, Greater}
use Rattle.facet_values.specs.Laid.{bodies_of}
use Rattle.facet_values.specs.Place.{Place, block_places, own_item, part_place, start_of}
use Rattle.facet_values.specs.Reading.{IsAlone, IsFilled, IsItemOf, IsSequenceOf, IsWhole, ReadAll, Reads, own_span, part_spans, spans_by}
use Rattle.facet_values.specs.Seen.{a_node, no_value, seen, seen_by}
use Rattle.facet_values.proofs.SeenParts.{AllInBlocks, all_parts, all_seen}

-- the shapes in the blocks of a sequence
abbrev pub ids_of : Structure → List ShapeId
ids_of (sequence form ids) = ids
ids_of _ = []

-- the discriminants of the values of the shape under an id
abbrev pub discriminants_at : List Shape → ℕ → List ℤ
discriminants_at shapes s = option_map_or (discriminants_in shapes) (slice_get shapes s) []

-- the parts that lie in values of the structure, and in blocks, are of the first n shapes
pub record HasPartsBelow (n : ℕ) (t : Structure) : Type 0 where
  pub bodies : All (All (λ part. part.shape.0 < n)) (bodies_of t)
  pub ids : All (λ id. id.0 < n) (ids_of t)
  pub shapes : (form : Form) (k : ℕ) → All (λ part. part < n) (part_shapes t form k)

-- two lists say the same of their first n shapes, which have parts of these alone
pub record AreAlike (xs zs : List Shape) (n : ℕ) : Type 0 where
  pub structure : (s : ℕ) → s < n → structure_at zs s ≡ structure_at xs s
  pub size : (s : ℕ) → s < n → size_at zs s ≡ size_at xs s
  pub offer : (s : ℕ) (c : Characteristic) → s < n → offers zs s c ≡ offers xs s c
  pub discriminants : (s : ℕ) → s < n → discriminants_at zs s ≡ discriminants_at xs s
  pub layout : (id : ShapeId) → id.0 < n → part_at zs id ≡ part_at xs id
  pub parts : (s : ℕ) → s < n → HasPartsBelow n (structure_at xs s)

pub alike_back : (xs zs : List Shape) (n : ℕ) → AreAlike xs zs n → AreAlike zs xs n
alike_back xs zs n same = record {
  structure = λ s below. sym (same.structure s below);
  size = λ s below. sym (same.size s below);
  offer = λ s c below. sym (same.offer s c below);
  discriminants = λ s below. sym (same.discriminants s below);
  layout = λ id below. sym (same.layout id below);
  parts = λ s below. subst (HasPartsBelow n) (sym (same.structure s below)) (same.parts s below);
}

module _ (xs zs : List Shape) (n : ℕ) (same : AreAlike xs zs n) where
  abbrev IsBelow : ShapeId → Type 0
  IsBelow id = id.0 < n

  abbrev IsPartBelow : PlacedField → Type 0
  IsPartBelow part = part.shape.0 < n

  block_size_alike : (ids : List ShapeId) → All IsBelow ids → block_size zs ids ≡ block_size xs ids
  block_size_alike [] below = refl
  block_size_alike (part ∷ []) below = ap (λ l. l.size) (same.layout part (All-head IsBelow part [] below))
  block_size_alike (key ∷ value ∷ []) below =
      let first = same.layout key (All-head IsBelow key (value ∷ []) below) in
      let second = same.layout value (All-head IsBelow value [] (All-tail IsBelow key (value ∷ []) below)) in
      λ i. (pair_layout (first i) (second i)).size
  block_size_alike (a ∷ b ∷ c ∷ ids) below = refl

  block_body_alike : (ids : List ShapeId) → All IsBelow ids → block_body zs ids ≡ block_body xs ids
  block_body_alike [] below = refl
  block_body_alike (part ∷ []) below = refl
  block_body_alike (key ∷ value ∷ []) below =
      let first = same.layout key (All-head IsBelow key (value ∷ []) below) in
      let second = same.layout value (All-head IsBelow value [] (All-tail IsBelow key (value ∷ []) below)) in
      λ i. record { shape = key; offset = 0 } ∷ record { shape = value; offset = value_offset (first i) (second i) } ∷ []
  block_body_alike (a ∷ b ∷ c ∷ ids) below = refl

  block_body_below : (ids : List ShapeId) → All IsBelow ids → All IsPartBelow (block_body xs ids)
  block_body_below [] below = All-nil IsPartBelow
  block_body_below (part ∷ []) below = All-cons IsPartBelow (record { shape = part; offset = 0 }) [] (All-head IsBelow part [] below) (All-nil IsPartBelow)
  block_body_below (key ∷ value ∷ []) below =
      let first : PlacedField = record { shape = key; offset = 0 } in
      let second : PlacedField = record { shape = value; offset = value_offset (part_at xs key) (part_at xs value) } in
      All-cons IsPartBelow first (second ∷ []) (All-head IsBelow key (value ∷ []) below)
      (All-cons IsPartBelow second [] (All-head IsBelow value [] (All-tail IsBelow key (value ∷ []) below)) (All-nil IsPartBelow))
  block_body_below (a ∷ b ∷ c ∷ ids) below = All-nil IsPartBelow

  part_spans_alike : (body : List PlacedField) → All IsPartBelow body → part_spans zs body ≡ part_spans xs body
  part_spans_alike [] below = refl
  part_spans_alike (part ∷ body) below =
      let first = same.size part.shape.0 (All-head IsPartBelow part body below) in
      let others = part_spans_alike body (All-tail IsPartBelow part body below) in
      λ i. record { start = part.offset; len = first i } ∷ others i

  block_spans_alike : (ids : List ShapeId) → All IsBelow ids → part_spans zs (block_body zs ids) ≡ part_spans xs (block_body xs ids)
  block_spans_alike ids below = ap (part_spans zs) (block_body_alike ids below) ∙ part_spans_alike (block_body xs ids) (block_body_below ids below)

  offers_alike : (c : Characteristic) (ids : List ShapeId) → All IsBelow ids → list_all (λ id. offers zs id.0 c) ids ≡ list_all (λ id. offers xs id.0 c) ids
  offers_alike c [] below = refl
  offers_alike c (id ∷ ids) below =
      let first = same.offer id.0 c (All-head IsBelow id ids below) in
      let others = offers_alike c ids (All-tail IsBelow id ids below) in
      λ i. first i && others i

  comparable_alike : (c : Characteristic) (t : Structure) → All IsBelow (ids_of t) → is_comparable zs t c ≡ is_comparable xs t c
  comparable_alike c (sequence form.List ids) below = offers_alike c ids below
  comparable_alike c (sequence form.BoxedSlice ids) below = offers_alike c ids below
  comparable_alike c _ below = refl

  answered_alike : (c : Characteristic) (s : ℕ) → s < n → is_answered zs c s ≡ is_answered xs c s
  answered_alike c s below =
      let own = same.offer s c below in
      let parts = ap (λ t. is_comparable zs t c) (same.structure s below) ∙ comparable_alike c (structure_at xs s) (same.parts s below).ids in
      λ i. own i && parts i

  rank_alike : (s : ℕ) (form : Form) → s < n → rank_at zs s form ≡ rank_at xs s form
  rank_alike s form below = ap (λ numbers. unwrap_or (slice_get numbers (tag_of_form form)) (pos (tag_of_form form))) (same.discriminants s below)

  module _ {L : Type 0} (m : LeafModel L) (which : Which) where
    mutual
      unfolding ordering

      -- two values are ordered alike
      pub ordering_alike : (s : ℕ) (v w : Value L) → s < n → ordering m zs which s v w ≡ ordering m xs which s v w
      ordering_alike s (leaf x) (leaf y) below = ap (λ is. answer_if is (Some (order_of_leaves m which x y))) (answered_alike (capability_of which) s below)
      ordering_alike s (leaf x) (node other ws) below = ap (λ is. answer_if is (ordered Less)) (answered_alike (capability_of which) s below)
      ordering_alike s (node form vs) (leaf y) below = ap (λ is. answer_if is (ordered Greater)) (answered_alike (capability_of which) s below)
      ordering_alike s (node form vs) (node other ws) below =
          let is = answered_alike (capability_of which) s below in
          let one = rank_alike s form below in
          let two = rank_alike s other below in
          let parts : ordering_of_parts m zs which (part_shapes (structure_at zs s) form (count vs)) vs ws ≡ ordering_of_parts m xs which (part_shapes (structure_at xs s) form (count vs)) vs ws =
          ap (λ t. ordering_of_parts m zs which (part_shapes t form (count vs)) vs ws) (same.structure s below)
          ∙ parts_alike (part_shapes (structure_at xs s) form (count vs)) vs ws ((same.parts s below).shapes form (count vs)) in
          λ i. answer_if (is i) (order_then (ordered (int_cmp (one i) (two i))) (parts i))

      parts_alike : (ss : List ℕ) (vs ws : Values L) → All (λ s. s < n) ss → ordering_of_parts m zs which ss vs ws ≡ ordering_of_parts m xs which ss vs ws
      parts_alike ss none none below = refl
      parts_alike ss none (more w ws) below = refl
      parts_alike ss (more v vs) none below = refl
      parts_alike [] (more v vs) (more w ws) below = parts_alike [] vs ws below
      parts_alike (s ∷ ss) (more v vs) (more w ws) below =
          let first = ordering_alike s v w (All-head (λ s. s < n) s ss below) in
          let others = parts_alike ss vs ws (All-tail (λ s. s < n) s ss below) in
          λ i. order_then (first i) (others i)

  module _ {L : Type 0} (m : LeafModel L) where
    in_order_alike : (t : Structure) (vs : Values L) → All IsBelow (ids_of t) → IsInOrder m xs t vs → IsInOrder m zs t vs
    in_order_alike no_values vs below is = tt
    in_order_alike (scalar k) vs below is = tt
    in_order_alike (plain form body) vs below is = tt
    in_order_alike (tagged forms bodies) vs below is = tt
    in_order_alike (sequence form []) vs below is = tt
    in_order_alike (sequence form (key ∷ ids)) vs below is =
        λ i j d before within. ordering_alike m by_total key.0 _ _ (All-head IsBelow key ids below) ∙ is i j d before within

    filled_alike : (ids : List ShapeId) → All IsBelow ids → (block : Block L) → IsFilled xs ids block → IsFilled zs ids block
    filled_alike ids below block is =
        let size = block_size_alike ids below in
        record {
          size = is.size ∙ sym size;
          alone = subst (λ k. IsAlone k (start_of 0 block) (part_spans zs (block_body zs ids))) (sym size)
              (subst (IsAlone (block_size xs ids) (start_of 0 block)) (sym (block_spans_alike ids below)) is.alone);
        }

    sequence_alike : (form : Form) (ids : List ShapeId) → All IsBelow ids → (s : Seq L) → IsSequenceOf xs form ids s → IsSequenceOf zs form ids s
    sequence_alike form ids below s is =
        let size = block_size_alike ids below in
        record {
          element_size = is.element_size ∙ sym size;
          filled = λ i block within. filled_alike ids below _ (is.filled i block within);
          spare = subst (λ k. All (λ block. block ≡ empty_block k) (spare_of s)) (sym size) is.spare;
          count = is.count;
        }

    item_alike : (t : Structure) (found : Option (Item L)) → All IsBelow (ids_of t) → IsItemOf m xs t found → IsItemOf m zs t found
    item_alike no_values found below is = tt
    item_alike (scalar k) found below is = is
    item_alike (plain form body) found below is = tt
    item_alike (tagged forms bodies) found below is = tt
    item_alike (sequence form ids) None below is = tt
    item_alike (sequence form ids) (Some (Leaf x)) below is = tt
    item_alike (sequence form ids) (Some (Tag k)) below is = tt
    item_alike (sequence form ids) (Some (Sequence s)) below is = sequence_alike form ids below s is

    tagged_spans_alike : (bodies : List (List PlacedField)) (tag : Option ℕ) → All (All IsPartBelow) bodies
        → option_map_or (λ t. part_spans zs (body_under bodies t)) tag [] ≡ option_map_or (λ t. part_spans xs (body_under bodies t)) tag []
    tagged_spans_alike bodies None below = refl
    tagged_spans_alike bodies (Some t) below = part_spans_alike (body_under bodies t) (under (slice_get bodies t) refl)
      where
        under : (found : Option (List PlacedField)) → slice_get bodies t ≡ found → All IsPartBelow (unwrap_or found [])
        under None is = All-nil IsPartBelow
        under (Some body) is = All_at (All IsPartBelow) bodies t body below is

    spans_alike : (t : Structure) (found : Option (Item L)) → All (All IsPartBelow) (bodies_of t) → spans_by zs t found ≡ spans_by xs t found
    spans_alike no_values found below = refl
    spans_alike (scalar k) found below = refl
    spans_alike (plain form body) found below = part_spans_alike body (All-head (All IsPartBelow) body [] below)
    spans_alike (tagged forms bodies) found below = ap (λ spans. own_span ∷ spans) (tagged_spans_alike bodies (tag_of found) below)
    spans_alike (sequence form ids) found below = refl

    seen_by_alike : (t : Structure) (p : Place L) (found : Option (Item L)) → All IsBelow (ids_of t) → seen_by zs t p found ≡ seen_by xs t p found
    seen_by_alike no_values p found below = refl
    seen_by_alike (scalar k) p found below = refl
    seen_by_alike (plain form body) p found below = refl
    seen_by_alike (tagged forms bodies) p found below = refl
    seen_by_alike (sequence form ids) p found below = ap (λ body. option_map_or (λ s. a_node form (block_places body (filled_of s))) (sequence_of found) no_value) (block_body_alike ids below)

    pub seen_alike : (p : Place L) → p.shape < n → seen zs p ≡ seen xs p
    unfolding seen
    seen_alike p below = ap (λ t. seen_by zs t p (own_item p)) (same.structure p.shape below) ∙ seen_by_alike (structure_at xs p.shape) p (own_item p) (same.parts p.shape below).ids

    whole_alike : (p : Place L) → p.shape < n → IsWhole m xs p → IsWhole m zs p
    whole_alike p below whole =
        let size = sym (same.size p.shape below) in
        let structure = sym (same.structure p.shape below) in
        let parts = same.parts p.shape below in
        record {
          inside = subst (λ k. p.offset + k ≤ size_of p.block) size whole.inside;
          alone = subst (λ k. IsAlone k p (spans_by zs (structure_at zs p.shape) (own_item p))) size
              (subst (λ t. IsAlone (size_at xs p.shape) p (spans_by zs t (own_item p))) structure
              (subst (IsAlone (size_at xs p.shape) p) (sym (spans_alike (structure_at xs p.shape) (own_item p) parts.bodies)) whole.alone));
          item = subst (λ t. IsItemOf m zs t (own_item p)) structure (item_alike (structure_at xs p.shape) (own_item p) parts.ids whole.item);
        }

    blocks_below : (p : Place L) (t : Structure) (found : Option (Item L)) → All IsBelow (ids_of t) → AllInBlocks xs (λ q. q.shape < n) p t found
    blocks_below p no_values found below = tt
    blocks_below p (scalar k) found below = tt
    blocks_below p (plain form body) found below = tt
    blocks_below p (tagged forms bodies) found below = tt
    blocks_below p (sequence form ids) found below =
        λ s is i block within. All-map (λ (q : Place L). q.shape < n) (part_place (start_of 0 (get_or (filled_of s) i block))) (block_body xs ids) (block_body_below ids below)

    parts_below : (p : Place L) → p.shape < n → (form : Form) (parts : List (Place L)) → seen xs p ≡ a_node form parts → All (λ q. q.shape < n) parts
    parts_below p below form parts is =
        let has = same.parts p.shape below in
        all_parts (λ q. q.shape < n) (seen xs p) form parts
        (all_seen xs (λ q. q.shape < n) p (λ i body within. All-map (λ (q : Place L). q.shape < n) (part_place p) _ (has.bodies i body within)) (blocks_below p (structure_at xs p.shape) (own_item p) has.ids))
        is

    mutual
      -- a place that reads as a value by the one list does by the other
      pub read_alike : (p : Place L) (v : Value L) → p.shape < n → Reads m xs p v → Reads m zs p v
      read_alike p (leaf x) below reads = (whole_alike p below reads.0, seen_alike p below ∙ reads.1)
      read_alike p (node form vs) below reads = (
        reads.0,
        whole_alike p below reads.1,
        seen_alike p below ∙ reads.2,
        all_alike reads.0 vs (parts_below p below form reads.0 reads.2) reads.3,
        subst (λ t. IsInOrder m zs t vs) (sym (same.structure p.shape below)) (in_order_alike (structure_at xs p.shape) vs (same.parts p.shape below).ids reads.4),
      )

      all_alike : (ps : List (Place L)) (vs : Values L) → All (λ q. q.shape < n) ps → ReadAll m xs ps vs → ReadAll m zs ps vs
      all_alike [] none below reads = tt
      all_alike [] (more v vs) below reads = absurd reads
      all_alike (p ∷ ps) none below reads = absurd reads
      all_alike (p ∷ ps) (more v vs) below reads =
          (read_alike p v (All-head (λ (q : Place L). q.shape < n) p ps below) reads.0, all_alike ps vs (All-tail (λ (q : Place L). q.shape < n) p ps below) reads.1)

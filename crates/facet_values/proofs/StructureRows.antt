-- When a place reads as a value, by the structure of the values of its shape.
use Rattle.std.proofs.Common.{◌≡◌, ℕ, ◌+◌, ◌<◌, List, [], ◌∷◌, ◌++◌, All, Option, None, Some, get_or, length, replicate, slice_get, unwrap_or, refl, sym, ap, ◌∙◌, subst, arith}
use Rattle.std.specs.Option.{option_map_or}
use Rattle.std.proofs.Math.ListN.{length-replicate}
use Rattle.std.proofs.lemmas.List.{ext_get_or, get_or-replicate}
use Rattle.std.proofs.lemmas.List.Elements.{All-append, All-contains, All-weaker, Contains-append_left, Contains-append_right, Contains-get_or}
use Rattle.facet_base.specs.declared.layout.ShapeId.{ShapeId}
use Rattle.facet_base.specs.declared.scalar_type.ScalarType.{ScalarType}
use Rattle.facet_block.proofs.Ranges.{item_empty, item_read, size_empty}
use Rattle.facet_block.specs.Block.{empty_block, item_at, items_of, leaf_of, size_of}
use Rattle.facet_block.specs.Seq.{element_size_of, filled_of, make_seq, spare_of}
use Rattle.facet_block.specs.Span.{IsBeside, IsEmptyIn, span}
use Rattle.facet_block.specs.declared.block.Block.{Block}
use Rattle.facet_block.specs.declared.block.Item.{Item, Leaf, Sequence, Tag}
use Rattle.facet_block.specs.declared.block.Seq.{Seq, out-roll-Seq}
use Rattle.facet_leaf.specs.LeafModel.{LeafModel}
use Rattle.facet_outline.specs.declared.placed_fields.PlacedField.{PlacedField}
use Rattle.facet_registry.specs.Registry.{size_at}
use Rattle.facet_shape.specs.declared.shape.Shape.{Shape}
use Rattle.facet_trees.specs.Ascending.{IsInOrder}
use Rattle.facet_trees.specs.Structure.{Structure, no_values, plain, scalar, sequence, tagged, block_body, block_size, structure_at}
use Rattle.facet_trees.specs.Value.{Value, Values, leaf, node}
use Rattle.facet_trees.specs.declared.form.Form.{Form}
use Rattle.facet_values.specs.Place.{Place, block_places, own_item, part_places}
use Rattle.facet_values.specs.Reading.{IsAlone, IsFilled, IsItemOf, IsLengthOf, IsSequenceOf, IsWhole, Reads, ReadAll, own_span, part_spans, spans_by}
use Rattle.facet_values.specs.Rows.{ArePartsAt, HoldsOnly, IsLeafAt, IsSequenceAt, IsTaggedAt}
use Rattle.facet_values.specs.Seen.{Seen, a_leaf, a_node, no_value, seen, seen_by}

-- lists
module _ {X : Type 0} where
  all_both : (P Q R : X → Type 0) (xs : List X) → ((x : X) → P x → Q x → R x) → All P xs → All Q xs → All R xs
  all_both P Q R xs both ps qs k d below = both (get_or xs k d) (ps k d below) (qs k d below)

  pub all_first : (P : X → Type 0) (xs ys : List X) → All P (xs ++ ys) → All P xs
  all_first P xs ys all k d below = All-contains P (xs ++ ys) (get_or xs k d) all (Contains-append_left xs ys (get_or xs k d) (Contains-get_or xs k d below))

  pub all_last : (P : X → Type 0) (xs ys : List X) → All P (xs ++ ys) → All P ys
  all_last P xs ys all k d below = All-contains P (xs ++ ys) (get_or ys k d) all (Contains-append_right xs ys (get_or ys k d) (Contains-get_or ys k d below))

-- blocks
module _ {L : Type 0} where
  block_of : List (Option (Item L)) → Block L
  block_of items = record { items = items }

  -- a block without an item is the empty one of its size
  pub empty_is : (size : ℕ) (b : Block L) → size_of b ≡ size → IsEmptyIn b (span 0 size) → b ≡ empty_block size
  unfolding block_of
  empty_is size b same vacant =
      ap block_of (ext_get_or None (items_of b) (replicate size None) (same ∙ sym (length-replicate size None)) (λ i below.
      let under : i < size = omega (arith, below, same) in
      sym (item_read b i) ∙ (vacant i (omega arith, omega arith) ∙ sym (get_or-replicate size i None None under))))

-- what a sequence of these blocks has
module _ {L : Type 0} (size : ℕ) (filled spare : List (Block L)) where
  pub size_made : element_size_of (make_seq size filled spare) ≡ size
  size_made = ap (λ o. o.element_size) (out-roll-Seq L (record { element_size = size; blocks = (filled, spare) }))

  pub filled_made : filled_of (make_seq size filled spare) ≡ filled
  filled_made = ap (λ o. o.blocks.0) (out-roll-Seq L (record { element_size = size; blocks = (filled, spare) }))

  pub spare_made : spare_of (make_seq size filled spare) ≡ spare
  spare_made = ap (λ o. o.blocks.1) (out-roll-Seq L (record { element_size = size; blocks = (filled, spare) }))

-- what is seen at the own item of a place
module _ {L : Type 0} where
  leaf_found : (found : Option (Item L)) (x : L) → option_map_or a_leaf (leaf_of found) no_value ≡ a_leaf x → found ≡ Some (Leaf x)
  leaf_found None x e = absurd (cc)
  leaf_found (Some (Leaf y)) x e = let same : y ≡ x = cc in ap (λ z. Some (Leaf z)) same
  leaf_found (Some (Tag n)) x e = absurd (cc)
  leaf_found (Some (Sequence s)) x e = absurd (cc)

  leaf_no_node : (found : Option (Item L)) (form : Form) (parts : List (Place L)) → option_map_or a_leaf (leaf_of found) no_value ≡ a_node form parts → ⊥
  leaf_no_node None form parts e = cc
  leaf_no_node (Some (Leaf y)) form parts e = cc
  leaf_no_node (Some (Tag n)) form parts e = cc
  leaf_no_node (Some (Sequence s)) form parts e = cc

  module _ (shapes : List Shape) (p : Place L) where
    module _ (forms : ℕ → Form) (bodies : List (List PlacedField)) where
      body_seen : ℕ → Option (List PlacedField) → Seen L
      body_seen tag o = option_map_or (λ body. a_node (forms tag) (part_places p body)) o no_value

      -- a node that is seen has the parts under its tag
      pub record IsTagSeen (found : Option (Item L)) (form : Form) (parts : List (Place L)) : Type 0 where
        pub tag : ℕ
        pub body : List PlacedField
        pub item : found ≡ Some (Tag tag)
        pub there : slice_get bodies tag ≡ Some body
        pub form_is : forms tag ≡ form
        pub parts_are : part_places p body ≡ parts

      body_found : (tag : ℕ) (o : Option (List PlacedField)) (form : Form) (parts : List (Place L)) → slice_get bodies tag ≡ o → body_seen tag o ≡ a_node form parts
          → IsTagSeen (Some (Tag tag)) form parts
      unfolding body_seen
      body_found tag None form parts is e = absurd (cc)
      body_found tag (Some body) form parts is e =
          let same_form : forms tag ≡ form = cc in
          let same_parts : part_places p body ≡ parts = cc in
          record { tag = tag; body = body; item = refl; there = is; form_is = same_form; parts_are = same_parts }

      pub tag_found : (found : Option (Item L)) (form : Form) (parts : List (Place L)) → seen_by shapes (tagged forms bodies) p found ≡ a_node form parts → IsTagSeen found form parts
      unfolding body_seen
      tag_found None form parts e = absurd (cc)
      tag_found (Some (Leaf y)) form parts e = absurd (cc)
      tag_found (Some (Tag n)) form parts e = body_found n (slice_get bodies n) form parts refl e
      tag_found (Some (Sequence s)) form parts e = absurd (cc)

      body_no_leaf : (tag : ℕ) (o : Option (List PlacedField)) (x : L) → body_seen tag o ≡ a_leaf x → ⊥
      unfolding body_seen
      body_no_leaf tag None x e = cc
      body_no_leaf tag (Some body) x e = cc

      tag_no_leaf : (found : Option (Item L)) (x : L) → seen_by shapes (tagged forms bodies) p found ≡ a_leaf x → ⊥
      unfolding body_seen
      tag_no_leaf None x e = cc
      tag_no_leaf (Some (Leaf y)) x e = cc
      tag_no_leaf (Some (Tag n)) x e = body_no_leaf n (slice_get bodies n) x e
      tag_no_leaf (Some (Sequence s)) x e = cc

      -- under a tag with parts they are what is seen, and lie beside the tag
      seen_under : (tag : ℕ) (body : List PlacedField) → slice_get bodies tag ≡ Some body → seen_by shapes (tagged forms bodies) p (Some (Tag tag)) ≡ a_node (forms tag) (part_places p body)
      unfolding body_seen
      seen_under tag body is = ap (body_seen tag) is

    -- the spans, where the tag is known
    spans_under : (forms : ℕ → Form) (bodies : List (List PlacedField)) (found : Option (Item L)) (tag : ℕ) (body : List PlacedField) → found ≡ Some (Tag tag) → slice_get bodies tag ≡ Some body
        → spans_by shapes (tagged forms bodies) found ≡ own_span ∷ part_spans shapes body
    spans_under forms bodies found tag body item there = ap (λ o. spans_by shapes (tagged forms bodies) o) item ∙ ap (λ o. own_span ∷ part_spans shapes (unwrap_or o [])) there

    module _ (form : Form) (ids : List ShapeId) where
      -- a node that is seen has the parts in the blocks of the sequence there
      pub record IsSequenceSeen (found : Option (Item L)) (other : Form) (parts : List (Place L)) : Type 0 where
        pub blocks : Seq L
        pub item : found ≡ Some (Sequence blocks)
        pub form_is : form ≡ other
        pub parts_are : block_places (block_body shapes ids) (filled_of blocks) ≡ parts

      pub sequence_found : (found : Option (Item L)) (other : Form) (parts : List (Place L)) → seen_by shapes (sequence form ids) p found ≡ a_node other parts → IsSequenceSeen found other parts
      sequence_found None other parts e = absurd (cc)
      sequence_found (Some (Leaf y)) other parts e = absurd (cc)
      sequence_found (Some (Tag n)) other parts e = absurd (cc)
      sequence_found (Some (Sequence s)) other parts e =
          let same_form : form ≡ other = cc in
          let same_parts : block_places (block_body shapes ids) (filled_of s) ≡ parts = cc in
          record { blocks = s; item = refl; form_is = same_form; parts_are = same_parts }

      sequence_no_leaf : (found : Option (Item L)) (x : L) → seen_by shapes (sequence form ids) p found ≡ a_leaf x → ⊥
      sequence_no_leaf None x e = cc
      sequence_no_leaf (Some (Leaf y)) x e = cc
      sequence_no_leaf (Some (Tag n)) x e = cc
      sequence_no_leaf (Some (Sequence s)) x e = cc

module _ {L : Type 0} (m : LeafModel L) (shapes : List Shape) where
  -- a value under one of the tags
  pub record IsTaggedBy (forms : ℕ → Form) (bodies : List (List PlacedField)) (p : Place L) (v : Value L) : Type 0 where
    pub tag : ℕ
    pub body : List PlacedField
    pub there : slice_get bodies tag ≡ Some body
    pub is : IsTaggedAt m shapes tag body p (forms tag) v

  -- a sequence of parts of these shapes, in the order and number that its form asks
  pub record IsSequenceBy (form : Form) (ids : List ShapeId) (p : Place L) (v : Value L) : Type 0 where
    pub parts : Values L
    pub is : IsSequenceAt m shapes (block_size shapes ids) (block_body shapes ids) p form parts v
    pub many : IsLengthOf form (length (filled_of is.blocks))
    pub ordered : IsInOrder m shapes (sequence form ids) parts

  -- what a place holds, by the structure
  module _ (p : Place L) (st : Structure) (of : structure_at shapes p.shape ≡ st) where
    pub seen_there : seen shapes p ≡ seen_by shapes st p (own_item p)
    unfolding seen
    seen_there = ap (λ s. seen_by shapes s p (own_item p)) of

    pub holds_of : IsWhole m shapes p → HoldsOnly m shapes p (spans_by shapes st (own_item p))
    holds_of whole = record { inside = whole.inside; alone = subst (λ s. IsAlone (size_at shapes p.shape) p (spans_by shapes s (own_item p))) of whole.alone }

    pub item_of : IsWhole m shapes p → IsItemOf m shapes st (own_item p)
    item_of whole = subst (λ s. IsItemOf m shapes s (own_item p)) of whole.item

    pub whole_from : HoldsOnly m shapes p (spans_by shapes st (own_item p)) → IsItemOf m shapes st (own_item p) → IsWhole m shapes p
    whole_from holds item = record {
      inside = holds.inside;
      alone = subst (λ s. IsAlone (size_at shapes p.shape) p (spans_by shapes s (own_item p))) (sym of) holds.alone;
      item = subst (λ s. IsItemOf m shapes s (own_item p)) (sym of) item;
    }

    pub order_of : (vs : Values L) → IsInOrder m shapes (structure_at shapes p.shape) vs → IsInOrder m shapes st vs
    order_of vs = subst (λ s. IsInOrder m shapes s vs) of

    pub order_from : (vs : Values L) → IsInOrder m shapes st vs → IsInOrder m shapes (structure_at shapes p.shape) vs
    order_from vs = subst (λ s. IsInOrder m shapes s vs) (sym of)

  -- without values nothing is read
  module _ (p : Place L) (of : structure_at shapes p.shape ≡ no_values) where
    pub reads_nothing : (v : Value L) → Reads m shapes p v → ⊥
    reads_nothing (leaf x) reads = let e = sym (seen_there p no_values of) ∙ reads.1 in cc
    reads_nothing (node form vs) reads = let e = sym (seen_there p no_values of) ∙ reads.2 in cc

  module _ (p : Place L) (k : ScalarType) (of : structure_at shapes p.shape ≡ scalar k) where
    pub leaf_from_reads : (v : Value L) → Reads m shapes p v → IsLeafAt m shapes k p v
    leaf_from_reads (leaf x) reads =
        let found = leaf_found (own_item p) x (sym (seen_there p (scalar k) of) ∙ reads.1) in
        record {
          leaf_there = x;
          kind = subst (λ o. IsItemOf m shapes (scalar k) o) found (item_of p (scalar k) of reads.0);
          item = found;
          holds = holds_of p (scalar k) of reads.0;
          value = refl;
        }
    leaf_from_reads (node form vs) reads = absurd (leaf_no_node (own_item p) form reads.0 (sym (seen_there p (scalar k) of) ∙ reads.2))

    pub reads_from_leaf : (v : Value L) → IsLeafAt m shapes k p v → Reads m shapes p v
    reads_from_leaf v is =
        let x = is.leaf_there in
        subst (λ w. Reads m shapes p w) (sym is.value) (
          whole_from p (scalar k) of is.holds (subst (λ o. IsItemOf m shapes (scalar k) o) (sym is.item) is.kind),
          seen_there p (scalar k) of ∙ ap (λ o. option_map_or a_leaf (leaf_of o) no_value) is.item,
        )

  module _ (p : Place L) (form : Form) (body : List PlacedField) (of : structure_at shapes p.shape ≡ plain form body) where
    pub parts_from_reads : (v : Value L) → Reads m shapes p v → ArePartsAt m shapes [] body p form v
    parts_from_reads (leaf x) reads = let e = sym (seen_there p (plain form body) of) ∙ reads.1 in absurd (cc)
    parts_from_reads (node other vs) reads =
        let e = sym (seen_there p (plain form body) of) ∙ reads.2 in
        let same_form : other ≡ form = cc in
        let same_parts : reads.0 ≡ part_places p body = cc in
        record {
          parts = vs;
          reads = subst (λ ps. ReadAll m shapes ps vs) same_parts reads.3;
          holds = holds_of p (plain form body) of reads.1;
          value = ap (λ f. node f vs) same_form;
        }

    pub reads_from_parts : (v : Value L) → ArePartsAt m shapes [] body p form v → Reads m shapes p v
    reads_from_parts v is =
        subst (λ w. Reads m shapes p w) (sym is.value)
        (part_places p body, whole_from p (plain form body) of is.holds tt, seen_there p (plain form body) of, is.reads, order_from p (plain form body) of is.parts tt)

  module _ (p : Place L) (forms : ℕ → Form) (bodies : List (List PlacedField)) (of : structure_at shapes p.shape ≡ tagged forms bodies) where
    pub tagged_from_reads : (v : Value L) → Reads m shapes p v → IsTaggedBy forms bodies p v
    tagged_from_reads (leaf x) reads = absurd (tag_no_leaf shapes p forms bodies (own_item p) x (sym (seen_there p (tagged forms bodies) of) ∙ reads.1))
    tagged_from_reads (node form vs) reads =
        let s = tag_found shapes p forms bodies (own_item p) form reads.0 (sym (seen_there p (tagged forms bodies) of) ∙ reads.2) in
        let holds = holds_of p (tagged forms bodies) of reads.1 in
        record {
          tag = s.tag;
          body = s.body;
          there = s.there;
          is = record {
            item = s.item;
            behind = record {
              parts = vs;
              reads = subst (λ ps. ReadAll m shapes ps vs) (sym s.parts_are) reads.3;
              holds = record {
                inside = holds.inside;
                alone = subst (λ spans. IsAlone (size_at shapes p.shape) p spans) (spans_under shapes p forms bodies (own_item p) s.tag s.body s.item s.there) holds.alone;
              };
              value = ap (λ f. node f vs) (sym s.form_is);
            };
          };
        }

    pub reads_from_tagged : (v : Value L) → IsTaggedBy forms bodies p v → Reads m shapes p v
    reads_from_tagged v by =
        let behind = by.is.behind in
        let spans = spans_under shapes p forms bodies (own_item p) by.tag by.body by.is.item by.there in
        subst (λ w. Reads m shapes p w) (sym behind.value) (
          part_places p by.body,
          whole_from p (tagged forms bodies) of
              (record { inside = behind.holds.inside; alone = subst (λ s. IsAlone (size_at shapes p.shape) p s) (sym spans) behind.holds.alone })
              tt,
          seen_there p (tagged forms bodies) of ∙ (ap (λ o. seen_by shapes (tagged forms bodies) p o) by.is.item ∙ seen_under shapes p forms bodies by.tag by.body by.there),
          behind.reads,
          order_from p (tagged forms bodies) of behind.parts tt,
        )

  -- the blocks of a sequence, as a reading has them and as a row has them
  module _ (size : ℕ) where
    spare_size : (b : Block L) → b ≡ empty_block size → size_of b ≡ size
    spare_size b is = ap size_of is ∙ size_empty L size

    spare_empty : (b : Block L) → b ≡ empty_block size → IsEmptyIn b (span 0 size)
    spare_empty b is i within = ap (λ c. item_at c i) is ∙ item_empty L size i

  module _ (ids : List ShapeId) where
    abbrev size : ℕ
    size = block_size shapes ids

    -- nothing but the parts lies in a block
    abbrev HoldsPartsOnly : Block L → Type 0
    HoldsPartsOnly b = (i : ℕ) → i < size → All (IsBeside i) (part_spans shapes (block_body shapes ids)) → item_at b i ≡ None

    filled_from : (b : Block L) → size_of b ≡ size → HoldsPartsOnly b → IsFilled shapes ids b
    filled_from b same alone = record {
      size = same;
      alone = λ i below beside. let here : i ≡ 0 + i = omega arith in subst (λ k. item_at b k ≡ None) here (alone i below beside);
    }

    alone_of : (b : Block L) → IsFilled shapes ids b → HoldsPartsOnly b
    alone_of b filled i below beside = let here : 0 + i ≡ i = omega arith in subst (λ k. item_at b k ≡ None) here (filled.alone i below beside)

    module _ (p : Place L) (form : Form) (parts : Values L) (v : Value L) where
      -- a row says of the blocks what a reading says of them
      blocks_from_row : (is : IsSequenceAt m shapes size (block_body shapes ids) p form parts v) → IsLengthOf form (length (filled_of is.blocks)) → IsSequenceOf shapes form ids is.blocks
      blocks_from_row is many = record {
        element_size = is.element_size;
        filled =
            all_both (λ b. size_of b ≡ size) HoldsPartsOnly (IsFilled shapes ids)
            (filled_of is.blocks) filled_from
            (all_first (λ b. size_of b ≡ size) (filled_of is.blocks) (spare_of is.blocks) is.sizes) is.alone;
        spare =
            all_both (λ b. size_of b ≡ size) (λ b. IsEmptyIn b (span 0 size)) (λ b. b ≡ empty_block size)
            (spare_of is.blocks) (empty_is size)
            (all_last (λ b. size_of b ≡ size) (filled_of is.blocks) (spare_of is.blocks) is.sizes) is.spare;
        count = many;
      }

    module _ (form : Form) (blocks : Seq L) (is : IsSequenceOf shapes form ids blocks) where
      sizes_of : All (λ b. size_of b ≡ size) (filled_of blocks ++ spare_of blocks)
      sizes_of =
          All-append (λ b. size_of b ≡ size) (filled_of blocks) (spare_of blocks)
          (All-weaker (IsFilled shapes ids) (λ b. size_of b ≡ size) (λ b filled. filled.size) (filled_of blocks) is.filled)
          (All-weaker (λ b. b ≡ empty_block size) (λ b. size_of b ≡ size) (spare_size size) (spare_of blocks) is.spare)

    -- a sequence that is made of such blocks
    pub blocks_made : (form : Form) (n : ℕ) (filled spare : List (Block L)) → n ≡ size → All (IsFilled shapes ids) filled → All (λ b. b ≡ empty_block size) spare → IsLengthOf form (length filled)
        → IsSequenceOf shapes form ids (make_seq n filled spare)
    blocks_made form n filled spare same all empty many = record {
      element_size = size_made n filled spare ∙ same;
      filled = subst (All (IsFilled shapes ids)) (sym (filled_made n filled spare)) all;
      spare = subst (All (λ b. b ≡ empty_block size)) (sym (spare_made n filled spare)) empty;
      count = subst (λ blocks. IsLengthOf form (length blocks)) (sym (filled_made n filled spare)) many;
    }

  module _ (p : Place L) (form : Form) (ids : List ShapeId) (of : structure_at shapes p.shape ≡ sequence form ids) where
    pub sequence_from_reads : (v : Value L) → Reads m shapes p v → IsSequenceBy form ids p v
    sequence_from_reads (leaf x) reads = absurd (sequence_no_leaf shapes p form ids (own_item p) x (sym (seen_there p (sequence form ids) of) ∙ reads.1))
    sequence_from_reads (node other vs) reads =
        let s = sequence_found shapes p form ids (own_item p) other reads.0 (sym (seen_there p (sequence form ids) of) ∙ reads.2) in
        let blocks : IsSequenceOf shapes form ids s.blocks = subst (λ o. IsItemOf m shapes (sequence form ids) o) s.item (item_of p (sequence form ids) of reads.1) in
        record {
          parts = vs;
          is = record {
            blocks = s.blocks;
            item = s.item;
            holds = holds_of p (sequence form ids) of reads.1;
            element_size = blocks.element_size;
            sizes = sizes_of ids form s.blocks blocks;
            alone =
                All-weaker (IsFilled shapes ids) (HoldsPartsOnly ids) (alone_of ids) (filled_of s.blocks) blocks.filled;
            spare =
                All-weaker (λ b. b ≡ empty_block (block_size shapes ids)) (λ b. IsEmptyIn b (span 0 (block_size shapes ids)))
                (spare_empty (block_size shapes ids)) (spare_of s.blocks) blocks.spare;
            reads = subst (λ ps. ReadAll m shapes ps vs) (sym s.parts_are) reads.3;
            value = ap (λ f. node f vs) (sym s.form_is);
          };
          many = blocks.count;
          ordered = order_of p (sequence form ids) of vs reads.4;
        }

    pub reads_from_sequence : (v : Value L) → IsSequenceBy form ids p v → Reads m shapes p v
    reads_from_sequence v by =
        let blocks = blocks_from_row ids p form by.parts v by.is by.many in
        subst (λ w. Reads m shapes p w) (sym by.is.value) (
          block_places (block_body shapes ids) (filled_of by.is.blocks),
          whole_from p (sequence form ids) of by.is.holds (subst (λ o. IsItemOf m shapes (sequence form ids) o) (sym by.is.item) blocks),
          seen_there p (sequence form ids) of ∙ ap (λ o. seen_by shapes (sequence form ids) p o) by.is.item,
          by.is.reads,
          order_from p (sequence form ids) of by.parts by.ordered,
        )

  -- where a place reads as a leaf, that leaf is the item there
  pub leaf_item : (p : Place L) (x : L) → Reads m shapes p (leaf x) → own_item p ≡ Some (Leaf x)
  leaf_item p x reads = go (structure_at shapes p.shape) refl
    where
      go : (st : Structure) → structure_at shapes p.shape ≡ st → own_item p ≡ Some (Leaf x)
      go no_values of = absurd (reads_nothing p of (leaf x) reads)
      go (scalar k) of = let is = leaf_from_reads p k of (leaf x) reads in let same : is.leaf_there ≡ x = (let e = is.value in cc) in is.item ∙ ap (λ y. Some (Leaf y)) same
      go (plain form body) of = let e = (parts_from_reads p form body of (leaf x) reads).value in absurd (cc)
      go (tagged forms bodies) of = let e = (tagged_from_reads p forms bodies of (leaf x) reads).is.behind.value in absurd (cc)
      go (sequence form ids) of = let e = (sequence_from_reads p form ids of (leaf x) reads).is.value in absurd (cc)

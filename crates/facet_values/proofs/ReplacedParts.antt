-- A part of the value at a place is replaced, or taken out: what the place reads as then.
use Rattle.std.proofs.Common.{◌≡◌, ◌≢◌, ℕ, zero, suc, ◌+◌, ◌*◌, ◌<◌, ◌≤◌, List, [], ◌∷◌, ◌++◌, All, AllPairs, Option, None, Some, get_or, inl, inr, length, option_map, slice_get, slice_set, unwrap_or, refl, sym, ap, ◌∙◌, subst, subst₂, arith}
use Rattle.std.proofs.lemmas.Bool.{cases_lt}
use Rattle.std.proofs.lemmas.List.{length-map, length-set}
use Rattle.std.proofs.lemmas.List.Elements.{All-head, All-set}
use Rattle.std.proofs.lemmas.Option.{get_or_from_slice_get, slice_get-map, slice_get_within}
use Rattle.facet_base.proofs.Lists.{All_at}
use Rattle.facet_base.specs.declared.layout.ShapeId.{ShapeId}
use Rattle.facet_block.proofs.Ranges.{changed_with_item, item_there}
use Rattle.facet_block.specs.Block.{item_at, items_of, size_of, with_item}
use Rattle.facet_block.specs.Seq.{element_size_of, filled_of, spare_of, with_filled}
use Rattle.facet_block.specs.Span.{IsApart, IsBeside, IsChanged, Span, span}
use Rattle.facet_block.specs.declared.block.Block.{Block}
use Rattle.facet_block.specs.declared.block.Item.{Item, Leaf, Sequence, Tag}
use Rattle.facet_block.specs.declared.block.Seq.{Seq}
use Rattle.facet_leaf.specs.LeafModel.{LeafModel}
use Rattle.facet_outline.specs.declared.placed_fields.PlacedField.{PlacedField}
use Rattle.facet_registry.specs.Registry.{size_at}
use Rattle.facet_shape.specs.declared.shape.Shape.{Shape}
use Rattle.facet_trees.specs.Ascending.{IsInOrder}
use Rattle.facet_trees.specs.Structure.{Structure, no_values, plain, scalar, sequence, tagged, block_body, block_size, structure_at}
use Rattle.facet_trees.specs.Value.{Value, Values, depth, greatest_depth, node, none, more}
use Rattle.facet_trees.specs.declared.form.Form.{Form}
use Rattle.facet_values.proofs.SameReading.{reads_alike}
use Rattle.facet_values.proofs.StructureRows.{all_first, all_last, blocks_made, filled_made, item_of, order_from, parts_from_reads, reads_from_parts, reads_from_tagged, seen_there, sequence_from_reads, tagged_from_reads, whole_from}
use Rattle.facet_values.specs.Laid.{HoldsApart, IsLaidOut, LieApart, LieBesideTag, LiesBehindTag, bodies_of}
use Rattle.facet_values.specs.Place.{LiesInBlock, Place, block_places, own_item, part_place, part_places, place_in, range_of, start_of}
use Rattle.facet_values.specs.Reading.{IsFilled, IsItemOf, IsLengthOf, IsReadableWithin, IsSequenceOf, Reads, ReadAll, own_span, part_spans}
use Rattle.facet_values.specs.Replaced.{body_at, body_by, with_first, with_parts}
use Rattle.facet_values.specs.Rows.{ArePartsAt, HoldsOnly}
use Rattle.facet_values.specs.Seen.{seen_by}

-- lists and spans
apart_swapped : (a b : Span) → IsApart a b → IsApart b a
apart_swapped a b apart i = elim (apart i) [ inl beside ↦ inr beside | inr beside ↦ inl beside ]

apart_in_order : (spans : List Span) (i j : ℕ) (a b : Span) → AllPairs IsApart spans → i < j → slice_get spans i ≡ Some a → slice_get spans j ≡ Some b → IsApart a b
apart_in_order spans i j a b apart before one other =
    let there = apart i j a before (slice_get_within spans j b other) in
    subst (λ x. IsApart x b) (get_or_from_slice_get spans i a a one)
    (subst (λ x. IsApart (get_or spans i a) x) (get_or_from_slice_get spans j b a other) there)

apart_there : (spans : List Span) (i j : ℕ) (a b : Span) → AllPairs IsApart spans → j ≢ i → slice_get spans i ≡ Some a → slice_get spans j ≡ Some b → IsApart a b
apart_there spans i j a b apart differs one other = elim (cases_lt i j) [
  | inl before ↦ apart_in_order spans i j a b apart before one other
  | inr from ↦ apart_swapped b a (apart_in_order spans j i b a apart (omega arith) other one)
]

beside_moved : (base x start len : ℕ) → IsBeside x (span start len) → IsBeside (base + x) (span (base + start) len)
beside_moved base x start len (inl before) = inl (omega arith)
beside_moved base x start len (inr behind) = inr (omega arith)

-- a byte of one of two spans that are apart lies beside the other
beside_one : (start len from n i : ℕ) → IsApart (span start len) (span from n) → i < n → IsBeside (from + i) (span start len)
beside_one start len from n i apart below = elim (apart (from + i)) [
  | inl beside ↦ beside
  | inr (inl before) ↦ absurd (omega arith)
  | inr (inr behind) ↦ absurd (omega arith)
]

first_beside : (start len : ℕ) → IsApart own_span (span start len) → IsBeside 0 (span start len)
first_beside start len apart = elim (apart 0) [
  | inl (inl before) ↦ absurd (omega arith)
  | inl (inr behind) ↦ absurd (omega arith)
  | inr beside ↦ beside
]

pub item_within : {L : Type 0} (b : Block L) (i : ℕ) (x : Item L) → item_at b i ≡ Some x → i < size_of b
item_within {L} b i x is = go (slice_get (items_of b) i) refl
  where
    go : (o : Option (Option (Item L))) → slice_get (items_of b) i ≡ o → i < size_of b
    go None nothing = let e = sym (ap (λ o. unwrap_or o None) nothing) ∙ is in absurd (cc)
    go (Some y) there = slice_get_within (items_of b) i y there

module _ {L : Type 0} (m : LeafModel L) (shapes : List Shape) where
  span_of : PlacedField → Span
  span_of part = span part.offset (size_at shapes part.shape.0)

  -- parts of two places, part by part
  module _ (p q : Place L) where
    abbrev Keeps : PlacedField → Type 0
    Keeps part = (v : Value L) → Reads m shapes (part_place p part) v → Reads m shapes (part_place q part) v

    all_kept : (body : List PlacedField) (vs : Values L) → ((j : ℕ) (other : PlacedField) → slice_get body j ≡ Some other → Keeps other)
        → ReadAll m shapes (part_places p body) vs → ReadAll m shapes (part_places q body) vs
    all_kept [] none keeps reads = tt
    all_kept [] (more v vs) keeps reads = absurd reads
    all_kept (part ∷ body) none keeps reads = absurd reads
    all_kept (part ∷ body) (more v vs) keeps reads = (keeps 0 part refl v reads.0, all_kept body vs (λ j. keeps (suc j)) reads.1)

    module _ (part : PlacedField) (w : Value L) (now : Reads m shapes (part_place q part) w) where
      one_replaced : (body : List PlacedField) (vs : Values L) (i : ℕ) → slice_get body i ≡ Some part
          → ((j : ℕ) (other : PlacedField) → j ≢ i → slice_get body j ≡ Some other → Keeps other)
          → ReadAll m shapes (part_places p body) vs → ReadAll m shapes (part_places q body) (with_parts i (more w none) vs)
      one_replaced [] vs i is keeps reads = absurd (cc)
      one_replaced (first ∷ body) none i is keeps reads = absurd reads
      one_replaced (first ∷ body) (more v vs) zero is keeps reads =
          let same : part ≡ first = cc in
          (subst (λ x. Reads m shapes (part_place q x) w) same now, all_kept body vs (λ j other. keeps (suc j) other (omega arith)) reads.1)
      one_replaced (first ∷ body) (more v vs) (suc i) is keeps reads =
          (keeps 0 first (omega arith) refl v reads.0, one_replaced body vs i is (λ j other differs. keeps (suc j) other (omega arith)) reads.1)

  module _ (all_laid : (s : ℕ) → s < length shapes → IsLaidOut shapes s) (p : Place L) (new : Block L) (part : PlacedField) (changed : IsChanged p.block new (range_of shapes (part_place p part))) where
    abbrev q : Place L
    q = place_in p.shape new p.offset

    kept_apart : (other : PlacedField) → other.shape.0 < length shapes → other.offset + size_at shapes other.shape.0 ≤ size_at shapes p.shape → LiesInBlock shapes p
        → IsApart (span_of part) (span_of other) → Keeps p q other
    unfolding span_of
    kept_apart other known inside lies apart v reads =
        reads_alike m shapes all_laid (part_place p other) (part_place q other) v known
        (record {
          shape = refl;
          items = λ i below.
              let beside = beside_one part.offset (size_at shapes part.shape.0) other.offset (size_at shapes other.shape.0) i apart below in
              let there : p.offset + (other.offset + i) ≡ p.offset + other.offset + i = omega arith in
              subst (λ k. item_at new k ≡ item_at p.block k) there
              (changed.outside (p.offset + (other.offset + i)) (beside_moved p.offset (other.offset + i) part.offset (size_at shapes part.shape.0) beside));
          inside = omega (arith, inside, lies, changed.size);
        })
        reads

    module _ (i : ℕ) (w : Value L) (now : Reads m shapes (part_place q part) w) where
      body_replaced : (own : List Span) (body : List PlacedField) (form other : Form) (vs : Values L) → LieApart shapes (size_at shapes p.shape) body → slice_get body i ≡ Some part
          → ArePartsAt m shapes own body p form (node other vs) → ArePartsAt m shapes own body q form (node other (with_parts i (more w none) vs))
      unfolding span_of
      body_replaced own body form other vs laid is parts =
          let same_form : other ≡ form = (let e = parts.value in cc) in
          let same_parts : parts.parts ≡ vs = (let e = parts.value in cc) in
          let lies = parts.holds.inside in
          let spans = part_spans shapes body in
          let span_there : (j : ℕ) (x : PlacedField) → slice_get body j ≡ Some x → slice_get spans j ≡ Some (span_of x) = λ j x at_j. slice_get-map span_of body j ∙ ap (option_map span_of) at_j in
          record {
            parts = with_parts i (more w none) vs;
            reads =
                one_replaced p q part w now body vs i is
                (λ j x differs at_j.
                kept_apart x (All_at (λ y. y.shape.0 < length shapes) body j x laid.known at_j)
                (All_at (λ y. y.offset + size_at shapes y.shape.0 ≤ size_at shapes p.shape) body j x laid.inside at_j) lies
                (apart_there spans i j (span_of part) (span_of x) laid.apart differs (span_there i part is) (span_there j x at_j)))
                (subst (λ ws. ReadAll m shapes (part_places p body) ws) same_parts parts.reads);
            holds = record {
              inside = omega (arith, lies, changed.size);
              alone = λ x below beside.
                  let beside_part = All_at (IsBeside x) spans i (span_of part) (all_last (IsBeside x) own spans beside) (span_there i part is) in
                  changed.outside (p.offset + x) (beside_moved p.offset x part.offset (size_at shapes part.shape.0) beside_part) ∙ parts.holds.alone x below beside;
            };
            value = ap (λ f. node f (with_parts i (more w none) vs)) same_form;
          }

      module _ (laid : IsLaidOut shapes p.shape) (form : Form) (vs : Values L) where
        plain_replaced : (own : Form) (body : List PlacedField) → structure_at shapes p.shape ≡ plain own body → slice_get body i ≡ Some part
            → Reads m shapes p (node form vs) → Reads m shapes q (node form (with_parts i (more w none) vs))
        plain_replaced own body of is reads =
            let bodies = subst (λ st. All (LieApart shapes (size_at shapes p.shape)) (bodies_of st)) of laid.bodies in
            reads_from_parts m shapes q own body of (node form (with_parts i (more w none) vs))
            (body_replaced [] body own form vs (All-head (LieApart shapes (size_at shapes p.shape)) body [] bodies) is (parts_from_reads m shapes p own body of (node form vs) reads))

        -- the tag lies beside the part
        tag_stays : (body : List PlacedField) → slice_get body i ≡ Some part → LieBesideTag shapes body → own_item q ≡ own_item p
        tag_stays body is beside =
            let apart = All_at (λ x. IsApart own_span (span x.offset (size_at shapes x.shape.0))) body i part beside is in
            let here : p.offset + 0 ≡ p.offset = omega arith in
            subst (λ k. item_at new k ≡ item_at p.block k) here
            (changed.outside (p.offset + 0) (beside_moved p.offset 0 part.offset (size_at shapes part.shape.0) (first_beside part.offset (size_at shapes part.shape.0) apart)))

        tagged_replaced : (forms : ℕ → Form) (bodies : List (List PlacedField)) → structure_at shapes p.shape ≡ tagged forms bodies
            → slice_get (body_by (tagged forms bodies) (own_item p)) i ≡ Some part
            → Reads m shapes p (node form vs) → Reads m shapes q (node form (with_parts i (more w none) vs))
        tagged_replaced forms bodies of is reads =
            let by = tagged_from_reads m shapes p forms bodies of (node form vs) reads in
            let body_is : body_by (tagged forms bodies) (own_item p) ≡ by.body = ap (λ o. body_by (tagged forms bodies) o) by.is.item ∙ ap (λ o. unwrap_or o []) by.there in
            let here = subst (λ body. slice_get body i ≡ Some part) body_is is in
            let laid_bodies = subst (λ st. All (LieApart shapes (size_at shapes p.shape)) (bodies_of st)) of laid.bodies in
            let laid_beside = subst (λ st. LiesBehindTag shapes st) of laid.beside in
            let lie = All_at (LieApart shapes (size_at shapes p.shape)) bodies by.tag by.body laid_bodies by.there in
            let stays = tag_stays by.body here (All_at (λ body. LieBesideTag shapes body) bodies by.tag by.body laid_beside by.there) in
            reads_from_tagged m shapes q forms bodies of (node form (with_parts i (more w none) vs))
            (record {
              tag = by.tag;
              body = by.body;
              there = by.there;
              is = record { item = stays ∙ by.is.item; behind = body_replaced (own_span ∷ []) by.body (forms by.tag) form vs lie here by.is.behind };
            })

        -- an inline part is replaced, and beside it nothing has changed
        pub part_replaced : slice_get (body_at shapes p) i ≡ Some part → Reads m shapes p (node form vs) → Reads m shapes q (node form (with_parts i (more w none) vs))
        part_replaced is reads = go (structure_at shapes p.shape) refl
          where
            go : (st : Structure) → structure_at shapes p.shape ≡ st → Reads m shapes q (node form (with_parts i (more w none) vs))
            go no_values of = let e = subst (λ s. slice_get (body_by s (own_item p)) i ≡ Some part) of is in absurd (cc)
            go (scalar k) of = let e = subst (λ s. slice_get (body_by s (own_item p)) i ≡ Some part) of is in absurd (cc)
            go (plain own body) of = plain_replaced own body of (subst (λ s. slice_get (body_by s (own_item p)) i ≡ Some part) of is) reads
            go (tagged forms bodies) of = tagged_replaced forms bodies of (subst (λ s. slice_get (body_by s (own_item p)) i ≡ Some part) of is) reads
            go (sequence own ids) of = let e = subst (λ s. slice_get (body_by s (own_item p)) i ≡ Some part) of is in absurd (cc)

  -- places one behind another
  first_replaced : (ps qs rest : List (Place L)) (vs ws : Values L) → length qs ≡ length ps → ReadAll m shapes (ps ++ rest) vs → ReadAll m shapes qs ws
      → ReadAll m shapes (qs ++ rest) (with_first ws vs)
  first_replaced [] [] rest vs none same reads now = reads
  first_replaced [] [] rest vs (more w ws) same reads now = absurd now
  first_replaced [] (q ∷ qs) rest vs ws same reads now = absurd (omega arith)
  first_replaced (p ∷ ps) [] rest vs ws same reads now = absurd (omega arith)
  first_replaced (p ∷ ps) (q ∷ qs) rest none ws same reads now = absurd reads
  first_replaced (p ∷ ps) (q ∷ qs) rest (more v vs) none same reads now = absurd now
  first_replaced (p ∷ ps) (q ∷ qs) rest (more v vs) (more w ws) same reads now = (now.0, first_replaced ps qs rest vs ws (omega arith) reads.1 now.1)

  -- the parts from the end of the first places on are replaced
  rest_replaced : (ps rest now : List (Place L)) (vs ws : Values L) (n k : ℕ) → k ≡ length ps + n
      → ((us : Values L) → ReadAll m shapes rest us → ReadAll m shapes now (with_parts n ws us))
      → ReadAll m shapes (ps ++ rest) vs → ReadAll m shapes (ps ++ now) (with_parts k ws vs)
  rest_replaced [] rest now vs ws n k is replaces reads =
      let same : k ≡ n = omega (arith, is) in
      subst (λ j. ReadAll m shapes now (with_parts j ws vs)) (sym same) (replaces vs reads)
  rest_replaced (p ∷ ps) rest now vs ws n zero is replaces reads = absurd (omega arith)
  rest_replaced (p ∷ ps) rest now none ws n (suc k) is replaces reads = absurd reads
  rest_replaced (p ∷ ps) rest now (more v vs) ws n (suc k) is replaces reads = (reads.0, rest_replaced ps rest now vs ws n k (omega arith) replaces reads.1)

  module _ (body : List PlacedField) (new : Block L) (ws : Values L) (now : ReadAll m shapes (part_places (start_of 0 new) body) ws) where
    as_many : (b c : Block L) → length (part_places (start_of 0 b) body) ≡ length (part_places (start_of 0 c) body)
    as_many b c = length-map body (part_place (start_of 0 b)) ∙ sym (length-map body (part_place (start_of 0 c)))

    blocks_replaced : (blocks : List (Block L)) (vs : Values L) (j n : ℕ) → n ≡ j * length body → j < length blocks
        → ReadAll m shapes (block_places body blocks) vs → ReadAll m shapes (block_places body (slice_set blocks j new)) (with_parts n ws vs)
    blocks_replaced [] vs j n is below reads = absurd (omega arith)
    blocks_replaced (b ∷ blocks) vs zero n is below reads =
        let nothing : n ≡ 0 = omega (arith, is) in
        subst (λ k. ReadAll m shapes (part_places (start_of 0 new) body ++ block_places body blocks) (with_parts k ws vs)) (sym nothing)
        (first_replaced (part_places (start_of 0 b) body) (part_places (start_of 0 new) body) (block_places body blocks) vs ws (as_many new b) reads now)
    blocks_replaced (b ∷ blocks) vs (suc j) n is below reads =
        let further : n ≡ length (part_places (start_of 0 b) body) + j * length body = omega (arith, is, length-map body (part_place (start_of 0 b))) in
        rest_replaced (part_places (start_of 0 b) body) (block_places body blocks) (block_places body (slice_set blocks j new)) vs ws (j * length body) n further
        (λ us. blocks_replaced blocks us j (j * length body) refl (omega arith)) reads

  module _ (p : Place L) (form : Form) (ids : List ShapeId) (of : structure_at shapes p.shape ≡ sequence form ids) where
    module _ (now : Block L) (changed : IsChanged p.block now (span p.offset 1)) (t : Seq L) (there : item_at now p.offset ≡ Some (Sequence t)) where
      abbrev there_now : Place L
      there_now = place_in p.shape now p.offset

      alone_now : HoldsOnly m shapes p (own_span ∷ []) → HoldsOnly m shapes there_now (own_span ∷ [])
      alone_now holds = record {
        inside = omega (arith, holds.inside, changed.size);
        alone = λ i below beside.
            let start : p.offset + 0 ≡ p.offset = omega arith in
            let there = subst (λ k. IsBeside (p.offset + i) (span k 1)) start (beside_moved p.offset i 0 1 (All-head (IsBeside i) own_span [] beside)) in
            changed.outside (p.offset + i) there ∙ holds.alone i below beside;
      }

      -- a sequence is exchanged for another: the place reads as what that one holds
      pub sequence_exchanged : (v : Value L) (vs : Values L) → IsSequenceOf shapes form ids t → ReadAll m shapes (block_places (block_body shapes ids) (filled_of t)) vs
          → IsInOrder m shapes (sequence form ids) vs → Reads m shapes p v → Reads m shapes there_now (node form vs)
      sequence_exchanged v vs blocks parts ordered reads =
          let by = sequence_from_reads m shapes p form ids of v reads in (
            block_places (block_body shapes ids) (filled_of t),
            whole_from m shapes there_now (sequence form ids) of (alone_now by.is.holds) (subst (λ o. IsItemOf m shapes (sequence form ids) o) (sym there) blocks),
            seen_there m shapes there_now (sequence form ids) of ∙ ap (λ o. seen_by shapes (sequence form ids) there_now o) there,
            parts,
            order_from m shapes there_now (sequence form ids) of vs ordered,
          )

    module _ (s : Seq L) (item : own_item p ≡ Some (Sequence s)) (j : ℕ) (new : Block L) (ws : Values L) (filled : IsFilled shapes ids new)
        (reads_now : ReadAll m shapes (part_places (start_of 0 new) (block_body shapes ids)) ws) where
      abbrev with_block : Seq L
      with_block = with_filled s (slice_set (filled_of s) j new)

      blocks_stay : IsSequenceOf shapes form ids s → IsSequenceOf shapes form ids with_block
      blocks_stay is =
          blocks_made m shapes ids form (element_size_of s) (slice_set (filled_of s) j new) (spare_of s) is.element_size
          (All-set (IsFilled shapes ids) (filled_of s) j new filled is.filled) is.spare (subst (IsLengthOf form) (sym (length-set (filled_of s) j new)) is.count)

      -- a filled block is exchanged for one whose parts read
      pub block_replaced : (other : Form) (vs : Values L) → j < length (filled_of s)
          → IsInOrder m shapes (sequence form ids) (with_parts (j * length (block_body shapes ids)) ws vs) → Reads m shapes p (node other vs)
          → Reads m shapes (place_in p.shape (with_item p.block p.offset (Some (Sequence with_block))) p.offset) (node form (with_parts (j * length (block_body shapes ids)) ws vs))
      block_replaced other vs below ordered reads =
          let by = sequence_from_reads m shapes p form ids of (node other vs) reads in
          let same_blocks : by.is.blocks ≡ s = (let e = sym by.is.item ∙ item in cc) in
          let same_parts : by.parts ≡ vs = (let e = by.is.value in cc) in
          let n = j * length (block_body shapes ids) in
          let parts = subst₂ (λ b us. ReadAll m shapes (block_places (block_body shapes ids) (filled_of b)) us) same_blocks same_parts by.is.reads in
          let blocks : IsSequenceOf shapes form ids s = subst (λ o. IsItemOf m shapes (sequence form ids) o) item (item_of m shapes p (sequence form ids) of reads.1) in
          sequence_exchanged (with_item p.block p.offset (Some (Sequence with_block))) (changed_with_item p.block p.offset (Some (Sequence with_block))) with_block
          (item_there p.block p.offset (Some (Sequence with_block)) (item_within p.block p.offset (Sequence s) item))
          (node other vs) (with_parts n ws vs) (blocks_stay blocks)
          (subst (λ bs. ReadAll m shapes (block_places (block_body shapes ids) bs) (with_parts n ws vs)) (sym (filled_made (element_size_of s) (slice_set (filled_of s) j new) (spare_of s)))
          (blocks_replaced (block_body shapes ids) new ws reads_now (filled_of s) vs j n refl below parts))
          ordered reads

  -- what the parts of a value read as
  pub part_read : (ps : List (Place L)) (vs : Values L) (i : ℕ) (q : Place L) → ReadAll m shapes ps vs → slice_get ps i ≡ Some q
      → (v : Value L) × Reads m shapes q v × (depth v ≤ greatest_depth vs)
  part_read [] vs i q reads is = absurd (cc)
  part_read (p ∷ ps) none i q reads is = absurd reads
  part_read (p ∷ ps) (more v vs) zero q reads is =
      let same : p ≡ q = cc in
      (v, subst (λ x. Reads m shapes x v) same reads.0, omega arith)
  part_read (p ∷ ps) (more v vs) (suc i) q reads is =
      let rest = part_read ps vs i q reads.1 is in
      (rest.0, rest.1, omega (arith, rest.2))

  -- places one behind another read apart
  record AreTwo (ps rest : List (Place L)) (vs : Values L) : Type 0 where
    pub first : Values L
    pub behind : Values L
    pub first_reads : ReadAll m shapes ps first
    pub behind_reads : ReadAll m shapes rest behind
    pub first_shallow : greatest_depth first ≤ greatest_depth vs
    pub behind_shallow : greatest_depth behind ≤ greatest_depth vs

  two_read : (ps rest : List (Place L)) (vs : Values L) → ReadAll m shapes (ps ++ rest) vs → AreTwo ps rest vs
  two_read [] rest vs reads = record { first = none; behind = vs; first_reads = tt; behind_reads = reads; first_shallow = omega arith; behind_shallow = omega arith }
  two_read (p ∷ ps) rest none reads = absurd reads
  two_read (p ∷ ps) rest (more v vs) reads =
      let two = two_read ps rest vs reads.1 in
      record {
        first = more v two.first;
        behind = two.behind;
        first_reads = (reads.0, two.first_reads);
        behind_reads = two.behind_reads;
        first_shallow = omega (arith, two.first_shallow);
        behind_shallow = omega (arith, two.behind_shallow);
      }

  -- what the parts in one of the blocks read as
  block_read : (body : List PlacedField) (blocks : List (Block L)) (vs : Values L) (j : ℕ) (b : Block L) → ReadAll m shapes (block_places body blocks) vs → slice_get blocks j ≡ Some b
      → (us : Values L) × ReadAll m shapes (part_places (start_of 0 b) body) us × (greatest_depth us ≤ greatest_depth vs)
  block_read body [] vs j b reads is = absurd (cc)
  block_read body (c ∷ blocks) vs zero b reads is =
      let same : c ≡ b = cc in
      let two = two_read (part_places (start_of 0 c) body) (block_places body blocks) vs reads in
      (two.first, subst (λ d. ReadAll m shapes (part_places (start_of 0 d) body) two.first) same two.first_reads, two.first_shallow)
  block_read body (c ∷ blocks) vs (suc j) b reads is =
      let two = two_read (part_places (start_of 0 c) body) (block_places body blocks) vs reads in
      let rest = block_read body blocks two.behind j b two.behind_reads is in
      (rest.0, rest.1, omega (arith, rest.2, two.behind_shallow))

  -- each inline part of a value at a place is of a shape that is there, and lies in the value's range
  module _ (p : Place L) (i : ℕ) (part : PlacedField) (laid : IsLaidOut shapes p.shape) where
    abbrev LiesInRange : Type 0
    LiesInRange = (part.shape.0 < length shapes) × (part.offset + size_at shapes part.shape.0 ≤ size_at shapes p.shape)

    in_body : (body : List PlacedField) → LieApart shapes (size_at shapes p.shape) body → slice_get body i ≡ Some part → LiesInRange
    in_body body lie here = (
      All_at (λ x. x.shape.0 < length shapes) body i part lie.known here,
      All_at (λ x. x.offset + size_at shapes x.shape.0 ≤ size_at shapes p.shape) body i part lie.inside here,
    )

    module _ (bodies : List (List PlacedField)) (all : All (LieApart shapes (size_at shapes p.shape)) bodies) where
      in_found : (tag : ℕ) (o : Option (List PlacedField)) → slice_get bodies tag ≡ o → slice_get (unwrap_or o []) i ≡ Some part → LiesInRange
      in_found tag None there here = absurd (cc)
      in_found tag (Some body) there here = in_body body (All_at (LieApart shapes (size_at shapes p.shape)) bodies tag body all there) here

      in_tagged : (forms : ℕ → Form) (found : Option (Item L)) → slice_get (body_by (tagged forms bodies) found) i ≡ Some part → LiesInRange
      in_tagged forms None here = absurd (cc)
      in_tagged forms (Some (Leaf x)) here = absurd (cc)
      in_tagged forms (Some (Tag tag)) here = in_found tag (slice_get bodies tag) refl here
      in_tagged forms (Some (Sequence s)) here = absurd (cc)

    pub inline_part_inside : slice_get (body_at shapes p) i ≡ Some part → LiesInRange
    inline_part_inside is = go (structure_at shapes p.shape) refl
      where
        go : (st : Structure) → structure_at shapes p.shape ≡ st → LiesInRange
        go no_values of = let e = subst (λ s. slice_get (body_by s (own_item p)) i ≡ Some part) of is in absurd (cc)
        go (scalar k) of = let e = subst (λ s. slice_get (body_by s (own_item p)) i ≡ Some part) of is in absurd (cc)
        go (plain own body) of =
            let bodies = subst (λ st. All (LieApart shapes (size_at shapes p.shape)) (bodies_of st)) of laid.bodies in
            in_body body (All-head (LieApart shapes (size_at shapes p.shape)) body [] bodies) (subst (λ s. slice_get (body_by s (own_item p)) i ≡ Some part) of is)
        go (tagged forms bodies) of =
            in_tagged bodies (subst (λ st. All (LieApart shapes (size_at shapes p.shape)) (bodies_of st)) of laid.bodies) forms (own_item p)
            (subst (λ s. slice_get (body_by s (own_item p)) i ≡ Some part) of is)
        go (sequence own ids) of = let e = subst (λ s. slice_get (body_by s (own_item p)) i ≡ Some part) of is in absurd (cc)

  module _ (p : Place L) (levels : ℕ) (readable : IsReadableWithin m shapes (suc levels) p) where
    part_readable : (q : Place L) (body : List PlacedField) (vs : Values L) (i : ℕ) (part : PlacedField) → ReadAll m shapes (part_places q body) vs → greatest_depth vs ≤ levels
        → slice_get body i ≡ Some part → IsReadableWithin m shapes levels (part_place q part)
    part_readable q body vs i part reads shallow is =
        let found = part_read (part_places q body) vs i (part_place q part) reads (slice_get-map (part_place q) body i ∙ ap (option_map (part_place q)) is) in
        record { value = found.0; reads = found.1; shallow = omega (arith, found.2, shallow) }

    -- where a place reads as a value of some levels, each inline part reads as one of a level less
    pub inline_part_readable : (i : ℕ) (part : PlacedField) → slice_get (body_at shapes p) i ≡ Some part → IsReadableWithin m shapes levels (part_place p part)
    inline_part_readable i part is = go (structure_at shapes p.shape) refl
      where
        by_parts : (own : List Span) (body : List PlacedField) (form : Form) → ArePartsAt m shapes own body p form readable.value → slice_get body i ≡ Some part → IsReadableWithin m shapes levels (part_place p part)
        by_parts own body form parts here = part_readable p body parts.parts i part parts.reads (omega (arith, readable.shallow, ap depth parts.value)) here

        go : (st : Structure) → structure_at shapes p.shape ≡ st → IsReadableWithin m shapes levels (part_place p part)
        go no_values of = let e = subst (λ s. slice_get (body_by s (own_item p)) i ≡ Some part) of is in absurd (cc)
        go (scalar k) of = let e = subst (λ s. slice_get (body_by s (own_item p)) i ≡ Some part) of is in absurd (cc)
        go (plain own body) of =
            by_parts [] body own (parts_from_reads m shapes p own body of readable.value readable.reads) (subst (λ s. slice_get (body_by s (own_item p)) i ≡ Some part) of is)
        go (tagged forms bodies) of =
            let by = tagged_from_reads m shapes p forms bodies of readable.value readable.reads in
            let body_is : body_by (tagged forms bodies) (own_item p) ≡ by.body = ap (λ o. body_by (tagged forms bodies) o) by.is.item ∙ ap (λ o. unwrap_or o []) by.there in
            by_parts (own_span ∷ []) by.body (forms by.tag) by.is.behind
            (subst (λ body. slice_get body i ≡ Some part) body_is (subst (λ s. slice_get (body_by s (own_item p)) i ≡ Some part) of is))
        go (sequence own ids) of = let e = subst (λ s. slice_get (body_by s (own_item p)) i ≡ Some part) of is in absurd (cc)

    module _ (form : Form) (ids : List ShapeId) (of : structure_at shapes p.shape ≡ sequence form ids) (s : Seq L) (item : own_item p ≡ Some (Sequence s)) (j : ℕ) (b : Block L)
        (there : slice_get (filled_of s) j ≡ Some b) where
      -- so does each part in a block of a sequence
      pub block_part_readable : (i : ℕ) (part : PlacedField) → slice_get (block_body shapes ids) i ≡ Some part → IsReadableWithin m shapes levels (part_place (start_of 0 b) part)
      block_part_readable i part is =
          let by = sequence_from_reads m shapes p form ids of readable.value readable.reads in
          let same_blocks : by.is.blocks ≡ s = (let e = sym by.is.item ∙ item in cc) in
          let parts = subst (λ c. ReadAll m shapes (block_places (block_body shapes ids) (filled_of c)) by.parts) same_blocks by.is.reads in
          let here = block_read (block_body shapes ids) (filled_of s) by.parts j b parts there in
          part_readable (start_of 0 b) (block_body shapes ids) here.0 i part here.1 (omega (arith, here.2, readable.shallow, ap depth by.is.value)) is

      -- and its range lies in the block
      pub block_part_inside : IsLaidOut shapes p.shape → (i : ℕ) (part : PlacedField) → slice_get (block_body shapes ids) i ≡ Some part → LiesInBlock shapes (part_place (start_of 0 b) part)
      block_part_inside laid i part is =
          let by = sequence_from_reads m shapes p form ids of readable.value readable.reads in
          let same_blocks : by.is.blocks ≡ s = (let e = sym by.is.item ∙ item in cc) in
          let apart = subst (λ st. HoldsApart shapes st) of laid.blocks in
          let ends = All_at (λ x. x.offset + size_at shapes x.shape.0 ≤ block_size shapes ids) (block_body shapes ids) i part apart.inside is in
          let sizes = subst (λ c. All (λ d. size_of d ≡ block_size shapes ids) (filled_of c ++ spare_of c)) same_blocks by.is.sizes in
          let size = All_at (λ d. size_of d ≡ block_size shapes ids) (filled_of s) j b (all_first (λ d. size_of d ≡ block_size shapes ids) (filled_of s) (spare_of s) sizes) there in
          omega (arith, ends, size)

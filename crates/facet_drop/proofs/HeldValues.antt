-- What a place that reads as a value holds, by how the values of its shape are made up, and when its range is cleared.
use Rattle.std.proofs.Common.{◌≡◌, ℕ, ◌+◌, ◌-◌, ◌<◌, ◌≤◌, true, List, [], ◌∷◌, All, AllPairs, Option, None, Some, inl, inr, get_or, length, map, option_map, slice_get, unwrap_or, refl, sym, ap, ◌∙◌, subst, arith}
use Rattle.std.specs.Option.{option_map_or}
use Rattle.std.proofs.lemmas.List.Elements.{All-cons, All-head, All-map, All-nil}
use Rattle.std.proofs.lemmas.Option.{slice_get-map}
use Rattle.facet_base.proofs.Lists.{All_at}
use Rattle.facet_base.specs.declared.layout.ShapeId.{ShapeId}
use Rattle.facet_base.specs.declared.scalar_type.ScalarType.{ScalarType}
use Rattle.facet_block.specs.Block.{tag_of}
use Rattle.facet_block.specs.Seq.{filled_of}
use Rattle.facet_block.specs.Span.{IsApart, IsBeside, IsCleared, Span, span}
use Rattle.facet_block.specs.declared.block.Block.{Block}
use Rattle.facet_block.specs.declared.block.Item.{Item, Leaf, Sequence, Tag}
use Rattle.facet_block.specs.declared.block.Seq.{Seq}
use Rattle.facet_causes.specs.Causes.{IsWellFormed}
use Rattle.facet_drop.proofs.ClearedRanges.{cleared_after, from_offset, one_cleared, whole_cleared}
use Rattle.facet_drop.proofs.KeptPlaces.{ranges_are, span_from}
use Rattle.facet_drop.specs.Cleared.{AreCleared}
use Rattle.facet_drop.specs.InlineParts.{inline_places, leaves_at, ranges_of}
use Rattle.facet_drop.specs.Makeup.{block_body_at, block_body_by, makeup_of, makeup_of_kind, parts_of_seen}
use Rattle.facet_drop.specs.declared.makeup.Makeup.TheVariants as makeup
use Rattle.facet_leaf.specs.LeafModel.{LeafModel}
use Rattle.facet_outline.specs.declared.placed_fields.PlacedField.{PlacedField}
use Rattle.facet_outline.specs.declared.value_kind.ValueKind.{ValueKind}
use Rattle.facet_outline.specs.declared.value_kind.ValueKind.TheVariants as kind
use Rattle.facet_registry.specs.Registry.{kind_at, size_at}
use Rattle.facet_shape.specs.declared.shape.Shape.{Shape}
use Rattle.facet_trees.specs.Structure.{Structure, no_values, plain, scalar, sequence, tagged, block_body, body_under, structure_at, structure_of_kind}
use Rattle.facet_trees.specs.Value.{Value, leaf, leaves, node}
use Rattle.facet_trees.specs.declared.form.Form.{Form}
use Rattle.facet_values.proofs.KindStructures.{kind_found, structure_found}
use Rattle.facet_values.proofs.LaidOut.{laid_out}
use Rattle.facet_values.proofs.StructureRows.{holds_of, leaf_from_reads, parts_from_reads, reads_nothing, seen_there, sequence_from_reads, tagged_from_reads}
use Rattle.facet_values.proofs.WholePlaces.{is_whole}
use Rattle.facet_values.specs.Laid.{HoldsApart, IsLaidOut, LieApart, LieBesideTag, LiesBehindTag, bodies_of, has_own_item}
use Rattle.facet_values.specs.Place.{Place, block_places, own_item, part_place, part_places, place_in, range_of}
use Rattle.facet_values.specs.Reading.{IsReadableWithin, Reads, own_span, part_spans, spans_by, value_at}
use Rattle.facet_values.specs.Replaced.{body_at, body_by}
use Rattle.facet_values.specs.Seen.{a_node, no_value, seen, seen_by}
use Rattle.facet_walk.proofs.ReadableParts.{parts_seen, value_of_seen, value_there}
use Rattle.facet_walk.specs.Look.{AreReadable}

-- the structure, once the code has told it apart
pub of_no_values : (st : Structure) → makeup.NoValues ≡ makeup_of st → st ≡ no_values
of_no_values no_values is = refl
of_no_values (scalar k) is = absurd (cc)
of_no_values (plain form body) is = absurd (cc)
of_no_values (tagged forms bodies) is = absurd (cc)
of_no_values (sequence form ids) is = absurd (cc)

pub of_leaf : (st : Structure) → makeup.Leaf ≡ makeup_of st → (k : ScalarType) × (st ≡ scalar k)
of_leaf no_values is = absurd (cc)
of_leaf (scalar k) is = (k, refl)
of_leaf (plain form body) is = absurd (cc)
of_leaf (tagged forms bodies) is = absurd (cc)
of_leaf (sequence form ids) is = absurd (cc)

pub of_inline : (st : Structure) → makeup.Inline ≡ makeup_of st → (form : Form) × (body : List PlacedField) × (st ≡ plain form body)
of_inline no_values is = absurd (cc)
of_inline (scalar k) is = absurd (cc)
of_inline (plain form body) is = (form, body, refl)
of_inline (tagged forms bodies) is = absurd (cc)
of_inline (sequence form ids) is = absurd (cc)

pub of_tagged : (st : Structure) → makeup.Tagged ≡ makeup_of st → (forms : ℕ → Form) × (bodies : List (List PlacedField)) × (st ≡ tagged forms bodies)
of_tagged no_values is = absurd (cc)
of_tagged (scalar k) is = absurd (cc)
of_tagged (plain form body) is = absurd (cc)
of_tagged (tagged forms bodies) is = (forms, bodies, refl)
of_tagged (sequence form ids) is = absurd (cc)

pub of_sequence : (st : Structure) → makeup.Sequence ≡ makeup_of st → (form : Form) × (ids : List ShapeId) × (st ≡ sequence form ids)
of_sequence no_values is = absurd (cc)
of_sequence (scalar k) is = absurd (cc)
of_sequence (plain form body) is = absurd (cc)
of_sequence (tagged forms bodies) is = absurd (cc)
of_sequence (sequence form ids) is = (form, ids, refl)

module _ (shapes : List Shape) where
  made_by_kind : (k : ValueKind) (shape : Shape) → makeup_of_kind k ≡ makeup_of (structure_of_kind shapes k shape)
  made_by_kind kind.NoValue shape = refl
  made_by_kind (kind.Leaf k) shape = refl
  made_by_kind kind.Unit shape = refl
  made_by_kind kind.Struct shape = refl
  made_by_kind kind.Array shape = refl
  made_by_kind kind.Enum shape = refl
  made_by_kind kind.Option shape = refl
  made_by_kind kind.Result shape = refl
  made_by_kind kind.List shape = refl
  made_by_kind kind.BoxedSlice shape = refl
  made_by_kind kind.Map shape = refl
  made_by_kind kind.Set shape = refl
  made_by_kind kind.Box shape = refl

  made_by_found : (found : Option Shape) → makeup_of_kind (kind_found shapes found) ≡ makeup_of (structure_found shapes found)
  made_by_found None = refl
  made_by_found (Some shape) = made_by_kind (kind_found shapes (Some shape)) shape

  -- how the values of a shape are made up follows from their kind
  pub made_up : (s : ℕ) → makeup_of_kind (kind_at shapes s) ≡ makeup_of (structure_at shapes s)
  unfolding structure_at
  made_up s = made_by_found (slice_get shapes s)

-- the values have inline parts
abbrev pub IsInline : Structure → Type 0
IsInline (plain form body) = Unit {0}
IsInline (tagged forms bodies) = Unit {0}
IsInline _ = ⊥

pub inline_by_plain : (st : Structure) (form : Form) (body : List PlacedField) → st ≡ plain form body → IsInline st
inline_by_plain st form body of = subst IsInline (sym of) tt

pub inline_by_tagged : (st : Structure) (forms : ℕ → Form) (bodies : List (List PlacedField)) → st ≡ tagged forms bodies → IsInline st
inline_by_tagged st forms bodies of = subst IsInline (sym of) tt

pub inline_told : (st : Structure) → makeup.Inline ≡ makeup_of st → IsInline st
inline_told st is = let (form, body, of) = of_inline st is in inline_by_plain st form body of

pub tagged_told : (st : Structure) → makeup.Tagged ≡ makeup_of st → IsInline st
tagged_told st is = let (forms, bodies, of) = of_tagged st is in inline_by_tagged st forms bodies of

module _ {L : Type 0} (shapes : List Shape) (p : Place L) where
  under_tag : (forms : ℕ → Form) (bodies : List (List PlacedField)) (tag : Option ℕ) →
      parts_of_seen (option_map_or (λ t. option_map_or (λ body. a_node (forms t) (part_places p body)) (slice_get bodies t) no_value) tag no_value)
      ≡ part_places p (option_map_or (body_under bodies) tag [])
  under_tag forms bodies None = refl
  under_tag forms bodies (Some t) = found (slice_get bodies t)
    where
      found : (o : Option (List PlacedField)) → parts_of_seen (option_map_or (λ body. a_node (forms t) (part_places p body)) o no_value) ≡ part_places p (unwrap_or o [])
      found None = refl
      found (Some body) = refl

  inline_seen_by : (st : Structure) (found : Option (Item L)) → IsInline st → parts_of_seen (seen_by shapes st p found) ≡ part_places p (body_by st found)
  inline_seen_by no_values found inline = absurd inline
  inline_seen_by (scalar k) found inline = absurd inline
  inline_seen_by (plain form body) found inline = refl
  inline_seen_by (tagged forms bodies) found inline = under_tag forms bodies (tag_of found)
  inline_seen_by (sequence form ids) found inline = absurd inline

  -- the parts that are seen are the inline ones, where the values have such
  pub inline_seen : IsInline (structure_at shapes p.shape) → parts_of_seen (seen shapes p) ≡ inline_places shapes p
  unfolding seen
  inline_seen inline = inline_seen_by (structure_at shapes p.shape) (own_item p) inline

  none_by : (st : Structure) (found : Option (Item L)) → (makeup_of st ≡ makeup.Inline → ⊥) → (makeup_of st ≡ makeup.Tagged → ⊥) → [] ≡ part_places p (body_by st found)
  none_by no_values found plain_not tag_not = refl
  none_by (scalar k) found plain_not tag_not = refl
  none_by (plain form body) found plain_not tag_not = absurd (plain_not refl)
  none_by (tagged forms bodies) found plain_not tag_not = absurd (tag_not refl)
  none_by (sequence form ids) found plain_not tag_not = refl

  -- and where they have none there are none
  pub none_inline : (makeup_of (structure_at shapes p.shape) ≡ makeup.Inline → ⊥) → (makeup_of (structure_at shapes p.shape) ≡ makeup.Tagged → ⊥) → [] ≡ inline_places shapes p
  none_inline plain_not tag_not = none_by (structure_at shapes p.shape) (own_item p) plain_not tag_not

  in_block : (o : Option PlacedField) (q : Place L) → option_map (part_place p) o ≡ Some q → q.block ≡ p.block
  in_block None q is = absurd (cc)
  in_block (Some part) q is = let same : part_place p part ≡ q = cc in sym (ap (λ (x : Place L). x.block) same)

  -- they lie in the block of the place
  pub same_block : (i : ℕ) (q : Place L) → slice_get (inline_places shapes p) i ≡ Some q → q.block ≡ p.block
  same_block i q is = in_block (slice_get (body_at shapes p) i) q (sym (slice_get-map (part_place p) (body_at shapes p) i) ∙ is)

-- how inline parts lie
module _ (shapes : List Shape) where
  no_part_apart : (size : ℕ) → LieApart shapes size []
  no_part_apart size = record {
    known = All-nil (λ part. part.shape.0 < length shapes);
    inside = All-nil (λ part. part.offset + size_at shapes part.shape.0 ≤ size);
    apart = λ i j d before within. absurd (omega (arith, within));
  }

  apart_under : (size tag : ℕ) (bodies : List (List PlacedField)) → All (LieApart shapes size) bodies → LieApart shapes size (body_under bodies tag)
  apart_under size tag bodies all = go (slice_get bodies tag) refl
    where
      go : (o : Option (List PlacedField)) → slice_get bodies tag ≡ o → LieApart shapes size (unwrap_or o [])
      go None is = no_part_apart size
      go (Some body) is = All_at (LieApart shapes size) bodies tag body all is

  beside_under : (tag : ℕ) (bodies : List (List PlacedField)) → All (LieBesideTag shapes) bodies → LieBesideTag shapes (body_under bodies tag)
  beside_under tag bodies all = go (slice_get bodies tag) refl
    where
      go : (o : Option (List PlacedField)) → slice_get bodies tag ≡ o → LieBesideTag shapes (unwrap_or o [])
      go None is = All-nil (λ part. IsApart own_span (span part.offset (size_at shapes part.shape.0)))
      go (Some body) is = All_at (LieBesideTag shapes) bodies tag body all is

  module _ {L : Type 0} where
    apart_by : (size : ℕ) (st : Structure) (found : Option (Item L)) → All (LieApart shapes size) (bodies_of st) → LieApart shapes size (body_by st found)
    apart_by size no_values found bodies = no_part_apart size
    apart_by size (scalar k) found bodies = no_part_apart size
    apart_by size (plain form body) found bodies = All-head (LieApart shapes size) body [] bodies
    apart_by size (tagged forms bs) found bodies = go (tag_of found)
      where
        go : (tag : Option ℕ) → LieApart shapes size (option_map_or (body_under bs) tag [])
        go None = no_part_apart size
        go (Some tag) = apart_under size tag bs bodies
    apart_by size (sequence form ids) found bodies = no_part_apart size

    -- the inline parts of a value of a shape that is laid out lie apart
    pub body_apart : (p : Place L) → IsLaidOut shapes p.shape → LieApart shapes (size_at shapes p.shape) (body_at shapes p)
    body_apart p laid = apart_by (size_at shapes p.shape) (structure_at shapes p.shape) (own_item p) laid.bodies

    tag_beside : (forms : ℕ → Form) (bodies : List (List PlacedField)) (found : Option (Item L)) → All (LieBesideTag shapes) bodies → LieBesideTag shapes (body_by (tagged forms bodies) found)
    tag_beside forms bodies found all = go (tag_of found)
      where
        go : (tag : Option ℕ) → LieBesideTag shapes (option_map_or (body_under bodies) tag [])
        go None = All-nil (λ part. IsApart own_span (span part.offset (size_at shapes part.shape.0)))
        go (Some tag) = beside_under tag bodies all

  start_beside : (at : ℕ) (part : PlacedField) → IsApart own_span (span part.offset (size_at shapes part.shape.0)) → IsBeside at (span_from shapes at part)
  start_beside at part apart = elim (apart 0) [
    | inl (inl before) ↦ absurd (omega arith)
    | inl (inr behind) ↦ absurd (omega arith)
    | inr (inl before) ↦ inl (omega (arith, before))
    | inr (inr behind) ↦ inr (omega (arith, behind))
  ]

  module _ {L : Type 0} (p : Place L) (next : Block L) (laid : IsLaidOut shapes p.shape) where
    abbrev q : Place L
    q = place_in p.shape next p.offset

    stays_by : (st : Structure) → LiesBehindTag shapes st → (i : ℕ) (part : PlacedField) → slice_get (body_by st (own_item p)) i ≡ Some part → IsCleared p.block next (span_from shapes p.offset part)
        → body_by st (own_item q) ≡ body_by st (own_item p)
    stays_by (tagged forms bodies) beside i part is cleared =
        let apart = All_at (λ x. IsApart own_span (span x.offset (size_at shapes x.shape.0))) (body_by (tagged forms bodies) (own_item p)) i part (tag_beside forms bodies (own_item p) beside) is in
        ap (body_by (tagged forms bodies)) (cleared.outside p.offset (start_beside p.offset part apart))
    stays_by no_values beside i part is cleared = refl
    stays_by (scalar k) beside i part is cleared = refl
    stays_by (plain form body) beside i part is cleared = refl
    stays_by (sequence form ids) beside i part is cleared = refl

    -- where one of the parts is dropped, the parts of the place stay the same
    pub body_stays : (i : ℕ) (part : PlacedField) → slice_get (body_at shapes p) i ≡ Some part → IsCleared p.block next (span_from shapes p.offset part) → body_at shapes q ≡ body_at shapes p
    body_stays i part is cleared = stays_by (structure_at shapes p.shape) laid.beside i part is cleared

    -- where all are dropped, the tag stays
    pub tag_stays : (forms : ℕ → Form) (bodies : List (List PlacedField)) → structure_at shapes p.shape ≡ tagged forms bodies
        → AreCleared p.block next (ranges_of shapes (inline_places shapes p)) → own_item q ≡ own_item p
    tag_stays forms bodies of cleared =
        let ranges = subst (AreCleared p.block next) (ranges_are shapes p (body_at shapes p)) cleared in
        let behind = subst (LiesBehindTag shapes) of laid.beside in
        let beside = subst (λ st. LieBesideTag shapes (body_by st (own_item p))) (sym of) (tag_beside forms bodies (own_item p) behind) in
        ranges.outside p.offset (All-map (IsBeside p.offset) (span_from shapes p.offset) (body_at shapes p) (λ j part within. start_beside p.offset (get_or (body_at shapes p) j part) (beside j part within)))

  spans_moved : (at : ℕ) (body : List PlacedField) → map (from_offset at) (part_spans shapes body) ≡ map (span_from shapes at) body
  spans_moved at [] = refl
  spans_moved at (part ∷ body) = ap (λ xs. span_from shapes at part ∷ xs) (spans_moved at body)

  spans_inside : (size : ℕ) (body : List PlacedField) → LieApart shapes size body → All (λ range. range.start + range.len ≤ size) (part_spans shapes body)
  spans_inside size body apart = All-map (λ (range : Span). range.start + range.len ≤ size) (λ part. span part.offset (size_at shapes part.shape.0)) body apart.inside

  tag_spans : (bodies : List (List PlacedField)) (tag : Option ℕ) → option_map_or (λ t. part_spans shapes (body_under bodies t)) tag [] ≡ part_spans shapes (option_map_or (body_under bodies) tag [])
  tag_spans bodies None = refl
  tag_spans bodies (Some t) = refl

module _ {L : Type 0} (m : LeafModel L) (shapes : List Shape) (p : Place L) (laid : IsLaidOut shapes p.shape) (v : Value L) (reads : Reads m shapes p v) (end : Block L) where
  own_first : has_own_item (structure_at shapes p.shape) ≡ true → 0 + 1 ≤ size_at shapes p.shape
  own_first has = laid.own has

  own_inside : (spans : List Span) → has_own_item (structure_at shapes p.shape) ≡ true → All (λ range. range.start + range.len ≤ size_at shapes p.shape) spans
      → All (λ range. range.start + range.len ≤ size_at shapes p.shape) (own_span ∷ spans)
  own_inside spans has inside = All-cons (λ (range : Span). range.start + range.len ≤ size_at shapes p.shape) own_span spans (own_first has) inside

  own_moved : IsCleared p.block end (span p.offset 1) → IsCleared p.block end (from_offset p.offset own_span)
  own_moved = let start : p.offset ≡ p.offset + 0 = omega arith in subst (λ k. IsCleared p.block end (span k 1)) start

  -- a value with one item of its own, which is taken out
  own_cleared : (st : Structure) → structure_at shapes p.shape ≡ st → has_own_item st ≡ true → spans_by shapes st (own_item p) ≡ own_span ∷ [] → IsCleared p.block end (span p.offset 1) → IsCleared p.block end (range_of shapes p)
  own_cleared st of has spans taken =
      let holds = holds_of m shapes p st of (is_whole m shapes p v reads) in
      whole_cleared p.block end p.offset (size_at shapes p.shape) (own_span ∷ [])
      (λ i below beside. holds.alone i below (subst (All (IsBeside i)) (sym spans) beside))
      (own_inside [] (ap has_own_item of ∙ has) (All-nil (λ (range : Span). range.start + range.len ≤ size_at shapes p.shape)))
      (one_cleared p.block end (from_offset p.offset own_span) (own_moved taken))

  -- the leaf that a value is, or its sequence, is taken out: the range is cleared
  pub leaf_cleared : (k : ScalarType) → structure_at shapes p.shape ≡ scalar k → IsCleared p.block end (span p.offset 1) → IsCleared p.block end (range_of shapes p)
  leaf_cleared k of = own_cleared (scalar k) of refl refl

  pub sequence_cleared : (form : Form) (ids : List ShapeId) → structure_at shapes p.shape ≡ sequence form ids → IsCleared p.block end (span p.offset 1) → IsCleared p.block end (range_of shapes p)
  sequence_cleared form ids of = own_cleared (sequence form ids) of refl refl

  -- the inline parts are dropped, and there is no other item
  pub parts_are_all : (form : Form) (body : List PlacedField) → structure_at shapes p.shape ≡ plain form body → AreCleared p.block end (ranges_of shapes (inline_places shapes p)) → IsCleared p.block end (range_of shapes p)
  parts_are_all form body of cleared =
      let size = size_at shapes p.shape in
      let holds = holds_of m shapes p (plain form body) of (is_whole m shapes p v reads) in
      let here : body_at shapes p ≡ body = ap (λ st. body_by st (own_item p)) of in
      let apart = subst (LieApart shapes size) here (body_apart shapes p laid) in
      let ranges = ranges_are shapes p (body_at shapes p) ∙ ap (map (span_from shapes p.offset)) here ∙ sym (spans_moved shapes p.offset body) in
      whole_cleared p.block end p.offset size (part_spans shapes body) holds.alone (spans_inside shapes size body apart) (subst (AreCleared p.block end) ranges cleared)

  -- the inline parts are dropped, and then the tag is taken out
  pub parts_and_tag : (forms : ℕ → Form) (bodies : List (List PlacedField)) → structure_at shapes p.shape ≡ tagged forms bodies → (between : Block L)
      → AreCleared p.block between (ranges_of shapes (inline_places shapes p)) → IsCleared between end (span p.offset 1) → IsCleared p.block end (range_of shapes p)
  parts_and_tag forms bodies of between cleared taken =
      let size = size_at shapes p.shape in
      let body = body_at shapes p in
      let holds = holds_of m shapes p (tagged forms bodies) of (is_whole m shapes p v reads) in
      let here : body ≡ body_by (tagged forms bodies) (own_item p) = ap (λ st. body_by st (own_item p)) of in
      let spans : own_span ∷ part_spans shapes body ≡ spans_by shapes (tagged forms bodies) (own_item p) =
      ap (λ b. own_span ∷ part_spans shapes b) here ∙ ap (λ xs. own_span ∷ xs) (sym (tag_spans shapes bodies (tag_of (own_item p)))) in
      let ranges = ranges_are shapes p body ∙ sym (spans_moved shapes p.offset body) in
      let start : p.offset ≡ p.offset + 0 = omega arith in
      whole_cleared p.block end p.offset size (own_span ∷ part_spans shapes body)
      (λ i below beside. holds.alone i below (subst (All (IsBeside i)) spans beside))
      (own_inside (part_spans shapes body) (ap has_own_item of) (spans_inside shapes size body (body_apart shapes p laid)))
      (cleared_after p.block between end (from_offset p.offset own_span) (map (from_offset p.offset) (part_spans shapes body))
      (subst (AreCleared p.block between) ranges cleared) (subst (λ k. IsCleared between end (span k 1)) start taken))

-- a place that reads as a value of so many levels at most
module _ {L : Type 0} (m : LeafModel L) (shapes : List Shape) (p : Place L) where
  no_leaf_inline : (st : Structure) → IsInline st → structure_at shapes p.shape ≡ st → (x : L) → Reads m shapes p (leaf x) → ⊥
  no_leaf_inline no_values inline of x reads = absurd inline
  no_leaf_inline (scalar k) inline of x reads = absurd inline
  no_leaf_inline (plain form body) inline of x reads = let e = (parts_from_reads m shapes p form body of (leaf x) reads).value in cc
  no_leaf_inline (tagged forms bodies) inline of x reads = let e = (tagged_from_reads m shapes p forms bodies of (leaf x) reads).is.behind.value in cc
  no_leaf_inline (sequence form ids) inline of x reads = absurd inline

  inline_node : (v : Value L) → Reads m shapes p v → IsInline (structure_at shapes p.shape) → (form : Form) × (a_node form (inline_places shapes p) ≡ seen shapes p)
  inline_node (leaf x) reads inline = absurd (no_leaf_inline (structure_at shapes p.shape) inline refl x reads)
  inline_node (node form vs) reads inline =
      let same : reads.0 ≡ inline_places shapes p = ap parts_of_seen (sym reads.2) ∙ inline_seen shapes p inline in
      (form, ap (a_node form) (sym same) ∙ sym reads.2)

  module _ (levels : ℕ) (r : IsReadableWithin m shapes levels p) where
    -- nothing is read of a shape without values
    pub no_value_there : makeup.NoValues ≡ makeup_of (structure_at shapes p.shape) → ⊥
    no_value_there is = reads_nothing m shapes p (of_no_values (structure_at shapes p.shape) is) r.value r.reads

    -- the leaf that lies there
    pub leaf_there : makeup.Leaf ≡ makeup_of (structure_at shapes p.shape) → (x : L) × (own_item p ≡ Some (Leaf x)) × (leaves (value_at shapes levels p) ≡ x ∷ [])
    leaf_there is =
        let (k, of) = of_leaf (structure_at shapes p.shape) is in
        let held = leaf_from_reads m shapes p k of r.value r.reads in
        (held.leaf_there, held.item, ap leaves (value_there m shapes r r.value r.reads ∙ held.value))

    -- the tag that lies there
    pub tag_there : makeup.Tagged ≡ makeup_of (structure_at shapes p.shape) → (tag : ℕ) × (own_item p ≡ Some (Tag tag))
    tag_there is =
        let (forms, bodies, of) = of_tagged (structure_at shapes p.shape) is in
        let held = tagged_from_reads m shapes p forms bodies of r.value r.reads in
        (held.tag, held.is.item)

    -- the sequence that lies there
    pub sequence_there : makeup.Sequence ≡ makeup_of (structure_at shapes p.shape) → (s : Seq L) × (own_item p ≡ Some (Sequence s))
    sequence_there is =
        let (form, ids, of) = of_sequence (structure_at shapes p.shape) is in
        let held = sequence_from_reads m shapes p form ids of r.value r.reads in
        (held.is.blocks, held.is.item)

    module _ (well : IsWellFormed m shapes) (known : p.shape < length shapes) where
      -- the inline parts read, with a level less, and have the leaves
      module _ (inline : IsInline (structure_at shapes p.shape)) where
        pub inline_read : AreReadable m shapes (levels - 1) (inline_places shapes p)
        inline_read = parts_seen r well known (inline_node r.value r.reads inline).1

        pub inline_leaves : leaves (value_at shapes levels p) ≡ leaves_at shapes (levels - 1) (inline_places shapes p)
        inline_leaves = ap leaves (value_of_seen r (inline_node r.value r.reads inline).1)

      -- so do the parts in the blocks of a sequence
      module _ (is : makeup.Sequence ≡ makeup_of (structure_at shapes p.shape)) (s : Seq L) (item : own_item p ≡ Some (Sequence s)) where
        abbrev held : List (Place L)
        held = block_places (block_body_at shapes p.shape) (filled_of s)

        held_seen : (form : Form) × (a_node form held ≡ seen shapes p)
        held_seen =
            let (form, ids, of) = of_sequence (structure_at shapes p.shape) is in
            let body : block_body_at shapes p.shape ≡ block_body shapes ids = ap (block_body_by shapes) of in (
              form,
              ap (λ b. a_node form (block_places b (filled_of s))) body
                  ∙ sym (seen_there m shapes p (sequence form ids) of ∙ ap (λ o. seen_by shapes (sequence form ids) p o) item),
            )

        pub blocks_read : AreReadable m shapes (levels - 1) held
        blocks_read = parts_seen r well known held_seen.1

        pub blocks_leaves : leaves (value_at shapes levels p) ≡ leaves_at shapes (levels - 1) held
        blocks_leaves = ap leaves (value_of_seen r held_seen.1)

        pub blocks_apart : AllPairs IsApart (part_spans shapes (block_body_at shapes p.shape))
        blocks_apart =
            let (form, ids, of) = of_sequence (structure_at shapes p.shape) is in
            let body : block_body_at shapes p.shape ≡ block_body shapes ids = ap (block_body_by shapes) of in
            let laid = subst (HoldsApart shapes) of (laid_out m shapes well p.shape known).blocks in
            subst (λ b. AllPairs IsApart (part_spans shapes b)) (sym body) laid.apart

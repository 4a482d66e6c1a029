-- A tag is put at a place, and parts are made behind it, or the tag is taken out again.
use Rattle.std.proofs.Common.{◌≡◌, ◌≢◌, ℕ, ◌+◌, ◌-◌, ◌<◌, ◌≤◌, inl, inr, true, All, List, [], length, option_map, slice_get, unwrap_or, Option, None, Some, Result, refl, sym, ap, ◌∙◌, subst, arith}
use Rattle.std.specs.Option.{option_map_or}
use Rattle.std.proofs.lemmas.Bool.{cases_eq}
use Rattle.std.proofs.lemmas.List.Elements.{All-head, All-map, All-nil, All-tail}
use Rattle.std.proofs.lemmas.Option.{slice_get-map}
use Rattle.std.specs.declared.alloc.AllocError.{AllocError}
use Rattle.facet_base.proofs.Lists.{All_at}
use Rattle.facet_block.proofs.Ranges.{item_elsewhere, item_there, size_with_item}
use Rattle.facet_block.specs.Block.{item_at, size_of, tag_of, with_item}
use Rattle.facet_block.specs.DropLog.{LeafLog}
use Rattle.facet_block.specs.Span.{IsApart, IsBeside, IsVacant, IsWithin, Span, span}
use Rattle.facet_block.specs.declared.block.Block.{Block}
use Rattle.facet_block.specs.declared.block.Item.{Tag}
use Rattle.facet_leaf.specs.LeafModel.{LeafModel}
use Rattle.facet_make.proofs.MadeByStructure.{item_lies, own_empty, stopped_node}
use Rattle.facet_make.proofs.PartsMade.{all_by_index, same_block}
use Rattle.facet_make.specs.Made.{Made, node_of}
use Rattle.facet_make.specs.Walk.{AreChanged, AreMadeWithin, IsMadeWithin, IsStopped, ranges_from}
use Rattle.facet_outline.specs.declared.placed_fields.PlacedField.{PlacedField}
use Rattle.facet_registry.specs.Registry.{size_at}
use Rattle.facet_shape.specs.declared.shape.Shape.{Shape}
use Rattle.facet_trees.specs.Structure.{Structure, no_values, plain, scalar, sequence, tagged, body_under, structure_at}
use Rattle.facet_trees.specs.Value.{Value, Values, leaves, leaves_of_parts, node}
use Rattle.facet_trees.specs.declared.form.Form.{Form}
use Rattle.facet_values.proofs.StructureRows.{reads_from_tagged}
use Rattle.facet_values.specs.Laid.{IsLaidOut, LieApart, LieBesideTag, LiesBehindTag, bodies_of, has_own_item}
use Rattle.facet_values.specs.Place.{place_in}
use Rattle.facet_values.specs.Reading.{own_span, part_spans}
use Rattle.facet_values.specs.Replaced.{body_at, body_by}
use Rattle.facet_values.specs.Rows.{bytes_of}

beside_moved : (base x start len : ℕ) → IsBeside x (span start len) → IsBeside (base + x) (span (base + start) len)
beside_moved base x start len (inl before) = inl (omega arith)
beside_moved base x start len (inr behind) = inr (omega arith)

first_beside : (start len : ℕ) → IsApart own_span (span start len) → IsBeside 0 (span start len)
first_beside start len apart = elim (apart 0) [
  | inl (inl before) ↦ absurd (omega arith)
  | inl (inr behind) ↦ absurd (omega arith)
  | inr beside ↦ beside
]

-- what holds of no part and of those under each tag holds under a tag that may be there
found_under : (P : List PlacedField → Type 0) (bodies : List (List PlacedField)) (tag : Option ℕ) → P [] → ((t : ℕ) → P (body_under bodies t)) → P (option_map_or (body_under bodies) tag [])
found_under P bodies None nothing each = nothing
found_under P bodies (Some t) nothing each = each t

module _ (shapes : List Shape) where
  abbrev range_from : ℕ → PlacedField → Span
  range_from at part = span (at + part.offset) (size_at shapes part.shape.0)

  -- where the tag lies is beside the ranges of what lies behind it
  pub tag_beside : (at : ℕ) (body : List PlacedField) → LieBesideTag shapes body → All (IsBeside at) (ranges_from shapes at body)
  tag_beside at body beside =
      All-map (IsBeside at) (range_from at) body
      (all_by_index (λ part. IsBeside at (range_from at part)) body
      (λ k part there.
      let apart = All_at (λ x. IsApart own_span (span x.offset (size_at shapes x.shape.0))) body k part beside there in
      let here : at + 0 ≡ at = omega arith in
      subst (λ i. IsBeside i (range_from at part)) here (beside_moved at 0 part.offset (size_at shapes part.shape.0) (first_beside part.offset (size_at shapes part.shape.0) apart))))

  none_apart : (size : ℕ) → LieApart shapes size []
  none_apart size = record {
    known = All-nil (λ (part : PlacedField). part.shape.0 < length shapes);
    inside = All-nil (λ (part : PlacedField). part.offset + size_at shapes part.shape.0 ≤ size);
    apart = λ i j d before within. absurd (omega (arith, within));
  }

  under_tag : (size : ℕ) (bodies : List (List PlacedField)) (tag : ℕ) → All (LieApart shapes size) bodies → LieApart shapes size (body_under bodies tag)
  under_tag size bodies tag all = go (slice_get bodies tag) refl
    where
      go : (o : Option (List PlacedField)) → slice_get bodies tag ≡ o → LieApart shapes size (unwrap_or o [])
      go None is = none_apart size
      go (Some body) is = All_at (LieApart shapes size) bodies tag body all is

  beside_under : (bodies : List (List PlacedField)) (tag : ℕ) → All (LieBesideTag shapes) bodies → LieBesideTag shapes (body_under bodies tag)
  beside_under bodies tag all = go (slice_get bodies tag) refl
    where
      go : (o : Option (List PlacedField)) → slice_get bodies tag ≡ o → LieBesideTag shapes (unwrap_or o [])
      go None is = All-nil (λ (part : PlacedField). IsApart own_span (span part.offset (size_at shapes part.shape.0)))
      go (Some body) is = All_at (LieBesideTag shapes) bodies tag body all is

  module _ {L : Type 0} (s : ℕ) (laid : IsLaidOut shapes s) where
    -- the inline parts of a value at a place lie apart
    pub inline_apart : (block : Block L) (at : ℕ) → LieApart shapes (size_at shapes s) (body_at shapes (place_in s block at))
    inline_apart block at = go (structure_at shapes s) laid.bodies
      where
        go : (st : Structure) → All (LieApart shapes (size_at shapes s)) (bodies_of st) → LieApart shapes (size_at shapes s) (body_by st (item_at block at))
        go no_values all = none_apart (size_at shapes s)
        go (scalar k) all = none_apart (size_at shapes s)
        go (plain form body) all = All-head (LieApart shapes (size_at shapes s)) body [] all
        go (tagged forms bodies) all = found_under (LieApart shapes (size_at shapes s)) bodies (tag_of (item_at block at)) (none_apart (size_at shapes s)) (λ t. under_tag (size_at shapes s) bodies t all)
        go (sequence form ids) all = none_apart (size_at shapes s)

    -- they are the same where the block is changed in their ranges alone
    pub inline_stays : (old new : Block L) (at : ℕ) (body some : List PlacedField) → body_at shapes (place_in s old at) ≡ body
        → (LieBesideTag shapes body → All (IsBeside at) (ranges_from shapes at some)) → AreChanged old new (ranges_from shapes at some) → body_at shapes (place_in s new at) ≡ body
    inline_stays old new at body some is beside changed = go (structure_at shapes s) laid.beside is
      where
        go : (st : Structure) → LiesBehindTag shapes st → body_by st (item_at old at) ≡ body → body_by st (item_at new at) ≡ body
        go no_values behind is = is
        go (scalar k) behind is = is
        go (plain form parts) behind is = is
        go (sequence form ids) behind is = is
        go (tagged forms bodies) behind is =
            let lies = found_under (LieBesideTag shapes) bodies (tag_of (item_at old at)) (All-nil (λ (part : PlacedField). IsApart own_span (span part.offset (size_at shapes part.shape.0)))) (λ t. beside_under bodies t behind) in
            ap (body_by (tagged forms bodies)) (changed.outside at (beside (subst (LieBesideTag shapes) is lies))) ∙ is

-- A vacant place of a shape that is laid out, and the tag that is put there.
module _ {L : Type 0} (m : LeafModel L) (shapes : List Shape) (s at : ℕ) (b : Block L) (laid : IsLaidOut shapes s) (vacant : IsVacant b (span at (size_at shapes s)))
    (forms : ℕ → Form) (bodies : List (List PlacedField)) (of : structure_at shapes s ≡ tagged forms bodies) (tag : ℕ) (body : List PlacedField) (there : slice_get bodies tag ≡ Some body) where
  abbrev pub with_tag : Block L
  with_tag = with_item b at (Some (Tag tag))

  pub tag_lies : item_at with_tag at ≡ Some (Tag tag)
  tag_lies = item_lies m shapes s at b laid vacant (tagged forms bodies) of refl (Tag tag)

  apart : LieApart shapes (size_at shapes s) body
  apart = All_at (LieApart shapes (size_at shapes s)) bodies tag body (subst (λ st. All (LieApart shapes (size_at shapes s)) (bodies_of st)) of laid.bodies) there

  behind : LieBesideTag shapes body
  behind = All_at (LieBesideTag shapes) bodies tag body (subst (LiesBehindTag shapes) of laid.beside) there

  pub tag_inside : at + size_at shapes s ≤ size_of with_tag
  tag_inside = omega (arith, size_with_item b at (Some (Tag tag)), vacant.inside)

  -- behind it are the parts that it stands for
  pub tag_inline : body_at shapes (place_in s with_tag at) ≡ body
  tag_inline = ap (λ st. body_by st (item_at with_tag at)) of ∙ ap (body_by (tagged forms bodies)) tag_lies ∙ ap (λ o. unwrap_or o []) there

  abbrev range : PlacedField → Span
  range part = span (at + part.offset) (size_at shapes part.shape.0)

  ends : (k : ℕ) (part : PlacedField) → slice_get body k ≡ Some part → part.offset + size_at shapes part.shape.0 ≤ size_at shapes s
  ends k part here = All_at (λ x. x.offset + size_at shapes x.shape.0 ≤ size_at shapes s) body k part apart.inside here

  -- their ranges are vacant
  pub tag_vacant : All (IsVacant with_tag) (ranges_from shapes at body)
  tag_vacant =
      All-map (IsVacant with_tag) range body
      (all_by_index (λ part. IsVacant with_tag (range part)) body
      (λ k part here.
      let last = ends k part here in
      let clear = All_at (IsBeside at) (ranges_from shapes at body) k (range part) (tag_beside shapes at body behind) (slice_get-map range body k ∙ ap (option_map range) here) in
      record {
        inside = omega (arith, last, tag_inside);
        empty = λ j within. item_elsewhere b at (Some (Tag tag)) j (not_at j part within clear) ∙ vacant.empty j (omega (arith, within.0), omega (arith, within.1, last));
      }))
    where
      not_at : (j : ℕ) (part : PlacedField) → IsWithin j (range part) → IsBeside at (range part) → j ≢ at
      not_at j part within (inl before) = omega (arith, within.0, before)
      not_at j part within (inr behind) = omega (arith, within.1, behind)

  parts_beside : (j : ℕ) → IsBeside j (span at (size_at shapes s)) → All (IsBeside j) (ranges_from shapes at body)
  parts_beside j beside =
      All-map (IsBeside j) range body
      (all_by_index (λ part. IsBeside j (range part)) body
      (λ k part here. elim beside [ inl before ↦ inl (omega arith) | inr past ↦ inr (omega (arith, past, ends k part here)) ]))

  parts_moved : (i : ℕ) → All (IsBeside i) (bytes_of m shapes body) → All (IsBeside (at + i)) (ranges_from shapes at body)
  parts_moved i beside =
      let bytes : PlacedField → Span = λ part. span part.offset (size_at shapes part.shape.0) in
      All-map (IsBeside (at + i)) range body
      (all_by_index (λ part. IsBeside (at + i) (range part)) body
      (λ k part here.
      beside_moved at i part.offset (size_at shapes part.shape.0)
      (All_at (IsBeside i) (bytes_of m shapes body) k (bytes part) beside (slice_get-map bytes body k ∙ ap (option_map bytes) here))))

  own_size : 0 < size_at shapes s
  own_size = laid.own (subst (λ st. has_own_item st ≡ true) (sym of) refl)

  module _ {levels held : ℕ} {case : Made (Value L) L} {parts : Made (Values L) L} {c : Block L} {begin end : LeafLog L} (deep : 1 ≤ levels) (is : case ≡ node_of (forms tag) parts) where
    -- all parts are made
    pub tagged_made : {n : ℕ} → AreMadeWithin m shapes (levels - 1) parts body at held n with_tag c begin end → IsMadeWithin m shapes levels case s at held n b c begin end
    tagged_made all = record {
      one = record {
        value = node (forms tag) all.values;
        is = is ∙ ap (node_of (forms tag)) all.is;
        reads =
            reads_from_tagged m shapes (place_in s c at) forms bodies of (node (forms tag) all.values)
            (record {
              tag = tag;
              body = body;
              there = there;
              is = record {
                item = all.changed.outside at (tag_beside shapes at body behind) ∙ tag_lies;
                behind = record {
                  parts = all.values;
                  reads = all.reads;
                  holds = record {
                    inside = omega (arith, all.changed.size, tag_inside);
                    alone = λ i below beside.
                        let past = first_past i (All-head (IsBeside i) own_span (part_spans shapes body) beside) in
                        all.changed.outside (at + i) (parts_moved i (All-tail (IsBeside i) own_span (part_spans shapes body) beside))
                        ∙ item_elsewhere b at (Some (Tag tag)) (at + i) (omega (arith, past)) ∙ vacant.empty (at + i) (omega arith, omega arith);
                  };
                  value = refl;
                };
              };
            });
        changed = record {
          size = all.changed.size ∙ size_with_item b at (Some (Tag tag));
          outside = λ j beside. all.changed.outside j (parts_beside j beside) ∙ item_elsewhere b at (Some (Tag tag)) j (not_own j beside);
        };
        log = all.log;
        spare = all.spare;
      };
      shallow = omega (arith, all.shallow);
      number = all.number;
      room = all.room;
    }
      where
        first_past : (i : ℕ) → IsBeside i own_span → 1 ≤ i
        first_past i (inl before) = absurd (omega arith)
        first_past i (inr past) = omega arith

        not_own : (j : ℕ) → IsBeside j (span at (size_at shapes s)) → j ≢ at
        not_own j (inl before) = omega arith
        not_own j (inr past) = omega (arith, own_size)

    -- a part stops, and the tag is taken out
    pub tagged_stopped : (result : Result (Option ℕ) AllocError) {d : Block L} → IsStopped leaves_of_parts parts result held with_tag c begin end → d ≡ with_item c at None → IsStopped leaves case result held b d begin end
    tagged_stopped result {d} stopped same =
        let node = stopped_node (forms tag) case parts result is stopped in
        let now : d ≡ with_item with_tag at None = same ∙ ap (λ x. with_item x at None) stopped.back.block in
        record {
          back = record {
            taken = node.back.taken;
            why = node.back.why;
            block = now ∙ same_block (with_item with_tag at None) b (size_with_item with_tag at None ∙ size_with_item b at (Some (Tag tag))) taken_out;
            log = node.back.log;
            spare = node.back.spare;
          };
          room = node.room;
        }
      where
        taken_out : (i : ℕ) → item_at (with_item with_tag at None) i ≡ item_at b i
        taken_out i = elim (cases_eq i at) [
          | inl same ↦
              subst (λ j. item_at (with_item with_tag at None) j ≡ item_at b j) (sym same)
              (item_there with_tag at None (omega (arith, own_size, tag_inside)) ∙ sym (own_empty m shapes s at b laid vacant (tagged forms bodies) of refl))
          | inr other ↦ item_elsewhere with_tag at None i other ∙ item_elsewhere b at (Some (Tag tag)) i other
        ]

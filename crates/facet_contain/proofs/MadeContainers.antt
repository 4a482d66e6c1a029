-- A tag in an empty range, alone or with a value moved behind it, reads as a value of the tag's form.
use Rattle.std.proofs.Common.{◌≡◌, ◌≢◌, inl, inr, ℕ, ◌+◌, ◌<◌, ◌≤◌, List, [], ◌∷◌, All, None, Some, length, slice_get, unwrap_or, refl, sym, ap, ◌∙◌, subst, arith}
use Rattle.std.proofs.lemmas.List.Elements.{All-head, All-tail}
use Rattle.facet_base.proofs.Lists.{All_at}
use Rattle.facet_base.specs.declared.layout.ShapeId.{ShapeId}
use Rattle.facet_block.proofs.Ranges.{changed_moved_in, item_elsewhere, item_there, size_with_item}
use Rattle.facet_block.specs.Block.{item_at, moved_in, moved_out, size_of, with_item}
use Rattle.facet_block.specs.Span.{IsApart, IsBeside, IsChanged, IsCleared, IsVacant, IsWithin, span}
use Rattle.facet_block.specs.declared.block.Block.{Block}
use Rattle.facet_block.specs.declared.block.Item.{Tag}
use Rattle.facet_causes.specs.Arrangement.{single}
use Rattle.facet_causes.specs.Causes.{IsWellFormed}
use Rattle.facet_leaf.specs.LeafModel.{LeafModel}
use Rattle.facet_outline.specs.declared.placed_fields.PlacedField.{PlacedField}
use Rattle.facet_outline.specs.declared.value_kind.ValueKind.TheVariants as kind
use Rattle.facet_registry.specs.Offsets.{part_offset_at}
use Rattle.facet_registry.specs.Registry.{kind_at, size_at}
use Rattle.facet_shape.specs.declared.shape.Shape.{Shape}
use Rattle.facet_trees.specs.Structure.{option_form, part_shapes, result_form, structure_at, tagged}
use Rattle.facet_trees.specs.Value.{Value, node, none, more}
use Rattle.facet_trees.specs.declared.form.Form.{Form}
use Rattle.facet_trees.specs.declared.form.Form.TheVariants as form
use Rattle.facet_values.proofs.LaidOut.{laid_out}
use Rattle.facet_values.proofs.MovedValues.{moved_cleared, moved_reads}
use Rattle.facet_values.proofs.StructureRows.{reads_from_tagged}
use Rattle.facet_values.proofs.WholePlaces.{lies_in_block}
use Rattle.facet_values.specs.Laid.{IsLaidOut, LieApart, LieBesideTag, LiesBehindTag, bodies_of, has_own_item}
use Rattle.facet_values.specs.Place.{place_in}
use Rattle.facet_values.specs.Reading.{IsReadable, Reads, own_span}
use Rattle.facet_contain.proofs.ContainerKinds.{option_is}
use Rattle.facet_contain.proofs.HeldParts.{one}
use Rattle.facet_contain.specs.Parts.{part_shape}

-- an offset beside some bytes isn't the first of them
not_first : (i start len : ℕ) → 0 < len → IsBeside i (span start len) → i ≢ start
not_first i start len some (inl before) = omega arith
not_first i start len some (inr behind) = omega arith

-- both further on
shifted : (at i start len : ℕ) → IsBeside i (span start len) → IsBeside (at + i) (span (at + start) len)
shifted at i start len (inl before) = inl (omega (arith, before))
shifted at i start len (inr behind) = inr (omega (arith, behind))

-- what lies beside a range lies beside a part of it
beside_part : (i at size start len : ℕ) → start + len ≤ size → IsBeside i (span at size) → IsBeside i (span (at + start) len)
beside_part i at size start len inside (inl before) = inl (omega (arith, before))
beside_part i at size start len inside (inr behind) = inr (omega (arith, behind))

module _ {L : Type 0} (m : LeafModel L) (shapes : List Shape) (laid : (s : ℕ) → s < length shapes → IsLaidOut shapes s) (s : ℕ) (sealed : s < length shapes) (forms : ℕ → Form) (bodies : List (List PlacedField))
    (of : structure_at shapes s ≡ tagged forms bodies) (old : Block L) (at : ℕ) (vacant : IsVacant old (span at (size_at shapes s))) where
  has_byte : 0 < size_at shapes s
  has_byte = (laid s sealed).own (ap has_own_item of)

  pub tag_below : at < size_of old
  tag_below = omega (arith, vacant.inside, has_byte)

  pub tag_empty : item_at old at ≡ None
  tag_empty = vacant.empty at (omega arith, omega (arith, has_byte))

  module _ (tag : ℕ) where
    abbrev with_tag : Block L
    with_tag = with_item old at (Some (Tag tag))

    same_size : size_of with_tag ≡ size_of old
    same_size = size_with_item old at (Some (Tag tag))

    elsewhere : (i : ℕ) → i ≢ at → IsWithin i (span at (size_at shapes s)) → item_at with_tag i ≡ None
    elsewhere i other within = item_elsewhere old at (Some (Tag tag)) i other ∙ vacant.empty i within

    -- the tag alone
    pub tag_changes : IsChanged old with_tag (span at (size_at shapes s))
    tag_changes = record { size = same_size; outside = λ i beside. item_elsewhere old at (Some (Tag tag)) i (not_first i at (size_at shapes s) has_byte beside) }

    pub tag_reads : slice_get bodies tag ≡ Some [] → Reads m shapes (place_in s with_tag at) (node (forms tag) none)
    tag_reads there =
        reads_from_tagged m shapes (place_in s with_tag at) forms bodies of (node (forms tag) none)
        (record {
          tag = tag;
          body = [];
          there = there;
          is = record {
            item = item_there old at (Some (Tag tag)) tag_below;
            behind = record {
              parts = none;
              reads = tt;
              holds = record {
                inside = omega (arith, vacant.inside, same_size);
                alone = λ i below beside.
                    let other = not_first i 0 1 (omega arith) (All-head (IsBeside i) (span 0 1) [] beside) in
                    elsewhere (at + i) (omega (arith, other)) (omega arith, omega (arith, below));
              };
              value = refl;
            };
          };
        })

    -- a part behind it
    module _ (part : ShapeId) (offset : ℕ) (there : slice_get bodies tag ≡ Some (one part offset)) where
      lies : LieApart shapes (size_at shapes s) (one part offset)
      lies =
          All_at (LieApart shapes (size_at shapes s)) bodies tag (one part offset)
          (subst (λ st. All (LieApart shapes (size_at shapes s)) (bodies_of st)) of (laid s sealed).bodies) there

      part_sealed : part.0 < length shapes
      part_sealed = All-head (λ x. x.shape.0 < length shapes) (record { shape = part; offset = offset }) [] lies.known

      part_inside : offset + size_at shapes part.0 ≤ size_at shapes s
      part_inside = All-head (λ x. x.offset + size_at shapes x.shape.0 ≤ size_at shapes s) (record { shape = part; offset = offset }) [] lies.inside

      -- the tag lies beside the part
      tag_beside : IsBeside 0 (span offset (size_at shapes part.0))
      tag_beside =
          let beside : All (LieBesideTag shapes) bodies = subst (LiesBehindTag shapes) of (laid s sealed).beside in
          let apart : IsApart own_span (span offset (size_at shapes part.0)) =
          All-head (λ x. IsApart own_span (span x.offset (size_at shapes x.shape.0))) (record { shape = part; offset = offset }) []
          (All_at (LieBesideTag shapes) bodies tag (one part offset) beside there) in
          elim (apart 0) [ inl (inl before) ↦ absurd (omega arith) | inl (inr behind) ↦ absurd (omega arith) | inr beside ↦ beside ]

      not_tag : (i : ℕ) → IsBeside 0 (span offset (size_at shapes part.0)) → IsWithin i (span (at + offset) (size_at shapes part.0)) → i ≢ at
      not_tag i (inl before) within = omega (arith, within.0, before)
      not_tag i (inr behind) within = omega (arith, within.0, within.1, behind)

      pub behind_vacant : IsVacant with_tag (span (at + offset) (size_at shapes part.0))
      behind_vacant = record {
        inside = omega (arith, vacant.inside, part_inside, same_size);
        empty = λ i within. elsewhere i (not_tag i tag_beside within) (omega (arith, within.0), omega (arith, within.1, part_inside));
      }

      module _ (source : Block L) (from : ℕ) (v : Value L) (reads : Reads m shapes (place_in part.0 source from) v) where
        pub source_inside : from + size_at shapes part.0 ≤ size_of source
        source_inside = lies_in_block m shapes (place_in part.0 source from) v reads

        abbrev made : Block L
        made = moved_in with_tag (at + offset) source from (size_at shapes part.0)

        changes : IsChanged with_tag made (span (at + offset) (size_at shapes part.0))
        changes = changed_moved_in with_tag (at + offset) source from (size_at shapes part.0) behind_vacant.inside source_inside

        pub made_changes : IsChanged old made (span at (size_at shapes s))
        made_changes = record {
          size = changes.size ∙ same_size;
          outside = λ i beside.
              changes.outside i (beside_part i at (size_at shapes s) offset (size_at shapes part.0) part_inside beside)
              ∙ item_elsewhere old at (Some (Tag tag)) i (not_first i at (size_at shapes s) has_byte beside);
        }

        tag_stays : item_at made at ≡ Some (Tag tag)
        tag_stays =
            let here : at + 0 ≡ at = omega arith in
            let beside = subst (λ i. IsBeside i (span (at + offset) (size_at shapes part.0))) here (shifted at 0 offset (size_at shapes part.0) tag_beside) in
            changes.outside at beside ∙ item_there old at (Some (Tag tag)) tag_below

        pub made_reads : Reads m shapes (place_in s made at) (node (forms tag) (more v none))
        made_reads =
            reads_from_tagged m shapes (place_in s made at) forms bodies of (node (forms tag) (more v none))
            (record {
              tag = tag;
              body = one part offset;
              there = there;
              is = record {
                item = tag_stays;
                behind = record {
                  parts = more v none;
                  reads = (moved_reads m shapes (place_in part.0 source from) v reads laid part_sealed with_tag (at + offset) behind_vacant.inside, tt);
                  holds = record {
                    inside = omega (arith, vacant.inside, same_size, changes.size);
                    alone = λ i below beside.
                        let spans = span offset (size_at shapes part.0) ∷ [] in
                        let other = not_first i 0 1 (omega arith) (All-head (IsBeside i) (span 0 1) spans beside) in
                        let aside = All-head (IsBeside i) (span offset (size_at shapes part.0)) [] (All-tail (IsBeside i) (span 0 1) spans beside) in
                        changes.outside (at + i) (shifted at i offset (size_at shapes part.0) aside)
                        ∙ elsewhere (at + i) (omega (arith, other)) (omega arith, omega (arith, below));
                  };
                  value = refl;
                };
              };
            })

abbrev result_bodies : ShapeId → ShapeId → ℕ → List (List PlacedField)
result_bodies value error offset = single value offset ∷ single error offset ∷ []

-- a tag is put at the start of an empty range, and a value is moved behind it: that this may be done, and what is left
pub record MovesBehind {L : Type 0} (m : LeafModel L) (shapes : List Shape) (s : ℕ) (form : Form) (tag : ℕ) (old : Block L) (at : ℕ) (source : Block L) (from shape offset size : ℕ) : Type 0 where
  pub below : at < size_of old
  pub empty : item_at old at ≡ None
  pub vacant : IsVacant (with_item old at (Some (Tag tag))) (span (at + offset) size)
  pub inside : from + size ≤ size_of source
  pub made : (v : Value L) → Reads m shapes (place_in shape source from) v → Reads m shapes (place_in s (moved_in (with_item old at (Some (Tag tag))) (at + offset) source from size) at) (node form (more v none))
  pub changed : IsChanged old (moved_in (with_item old at (Some (Tag tag))) (at + offset) source from size) (span at (size_at shapes s))
  pub cleared : IsCleared source (moved_out source from size) (span from (size_at shapes shape))

module _ {L : Type 0} {m : LeafModel L} {shapes : List Shape} (well : IsWellFormed m shapes) {s : ℕ} (sealed : s < length shapes) {old : Block L} {at : ℕ} (vacant : IsVacant old (span at (size_at shapes s))) where
  -- a part of a known shape at a known offset
  moves_behind : {source : Block L} {from shape offset size : ℕ} (part : ShapeId) (place : ℕ) (forms : ℕ → Form) (bodies : List (List PlacedField)) (tag : ℕ) → structure_at shapes s ≡ tagged forms bodies
      → slice_get bodies tag ≡ Some (one part place) → shape ≡ part.0 → offset ≡ place → (part.0 < length shapes → size ≡ size_at shapes part.0) → IsReadable m shapes (place_in shape source from)
      → MovesBehind m shapes s (forms tag) tag old at source from shape offset size
  moves_behind {source} {from} {shape} {offset} {size} part place forms bodies tag of there same offset_is size_is r =
      let laid = laid_out m shapes well in
      let known = part_sealed m shapes laid s sealed forms bodies of old at vacant tag part place there in
      let here = subst (λ n. IsReadable m shapes (place_in n source from)) same r in
      subst (λ n. MovesBehind m shapes s (forms tag) tag old at source from n offset size) (sym same)
      (subst (λ n. MovesBehind m shapes s (forms tag) tag old at source from part.0 n size) (sym offset_is)
      (subst (λ n. MovesBehind m shapes s (forms tag) tag old at source from part.0 place n) (sym (size_is known))
      (record {
        below = tag_below m shapes laid s sealed forms bodies of old at vacant;
        empty = tag_empty m shapes laid s sealed forms bodies of old at vacant;
        vacant = behind_vacant m shapes laid s sealed forms bodies of old at vacant tag part place there;
        inside = source_inside m shapes laid s sealed forms bodies of old at vacant tag part place there source from here.value here.reads;
        made = λ v reads. made_reads m shapes laid s sealed forms bodies of old at vacant tag part place there source from v reads;
        changed = made_changes m shapes laid s sealed forms bodies of old at vacant tag part place there source from here.value here.reads;
        cleared = moved_cleared m shapes (place_in part.0 source from) here.value here.reads;
      })))

  -- an option that holds a value
  pub some_moves : {source : Block L} {from offset size : ℕ} (part : ShapeId) → structure_at shapes s ≡ tagged option_form ([] ∷ single part (part_offset_at shapes s) ∷ []) → offset ≡ part_offset_at shapes s
      → (part.0 < length shapes → size ≡ size_at shapes part.0) → IsReadable m shapes (place_in (part_shape shapes s form.Present 0) source from)
      → MovesBehind m shapes s form.Present 1 old at source from (part_shape shapes s form.Present 0) offset size
  some_moves part of offset_is size_is r =
      let same : part_shape shapes s form.Present 0 ≡ part.0 = ap (λ st. unwrap_or (slice_get (part_shapes st form.Present 1) 0) 0) of in
      moves_behind part (part_offset_at shapes s) option_form ([] ∷ single part (part_offset_at shapes s) ∷ []) 1 of refl same offset_is size_is r

  -- a result that is Ok, and one that is an error
  module _ {source : Block L} {from offset size : ℕ} (value error : ShapeId) (of : structure_at shapes s ≡ tagged result_form (single value (part_offset_at shapes s) ∷ single error (part_offset_at shapes s) ∷ [])) (offset_is : offset ≡ part_offset_at shapes s) where
    pub ok_moves : (value.0 < length shapes → size ≡ size_at shapes value.0) → IsReadable m shapes (place_in (part_shape shapes s form.Ok 0) source from)
        → MovesBehind m shapes s form.Ok 0 old at source from (part_shape shapes s form.Ok 0) offset size
    ok_moves size_is r =
        let same : part_shape shapes s form.Ok 0 ≡ value.0 = ap (λ st. unwrap_or (slice_get (part_shapes st form.Ok 1) 0) 0) of in
        moves_behind value (part_offset_at shapes s) result_form (result_bodies value error (part_offset_at shapes s)) 0 of refl same offset_is size_is r

    pub err_moves : (error.0 < length shapes → size ≡ size_at shapes error.0) → IsReadable m shapes (place_in (part_shape shapes s form.Err 0) source from)
        → MovesBehind m shapes s form.Err 1 old at source from (part_shape shapes s form.Err 0) offset size
    err_moves size_is r =
        let same : part_shape shapes s form.Err 0 ≡ error.0 = ap (λ st. unwrap_or (slice_get (part_shapes st form.Err 1) 0) 0) of in
        moves_behind error (part_offset_at shapes s) result_form (result_bodies value error (part_offset_at shapes s)) 1 of refl same offset_is size_is r

-- an option that is None
module _ {L : Type 0} (m : LeafModel L) (shapes : List Shape) (well : IsWellFormed m shapes) (s : ℕ) (sealed : s < length shapes) (of : kind_at shapes s ≡ kind.Option) {old : Block L} {at : ℕ}
    (vacant : IsVacant old (span at (size_at shapes s))) where
  pub none_below : at < size_of old
  none_below = let (part, is) = option_is shapes s of in tag_below m shapes (laid_out m shapes well) s sealed option_form ([] ∷ single part (part_offset_at shapes s) ∷ []) is old at vacant

  pub none_empty : item_at old at ≡ None
  none_empty = let (part, is) = option_is shapes s of in tag_empty m shapes (laid_out m shapes well) s sealed option_form ([] ∷ single part (part_offset_at shapes s) ∷ []) is old at vacant

  pub none_reads : Reads m shapes (place_in s (with_item old at (Some (Tag 0))) at) (node form.Absent none)
  none_reads = let (part, is) = option_is shapes s of in tag_reads m shapes (laid_out m shapes well) s sealed option_form ([] ∷ single part (part_offset_at shapes s) ∷ []) is old at vacant 0 refl

  pub none_changes : IsChanged old (with_item old at (Some (Tag 0))) (span at (size_at shapes s))
  none_changes = let (part, is) = option_is shapes s of in tag_changes m shapes (laid_out m shapes well) s sealed option_form ([] ∷ single part (part_offset_at shapes s) ∷ []) is old at vacant 0

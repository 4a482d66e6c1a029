-- What a place of an empty range reads as once a sequence was put there.
use Rattle.std.proofs.Common.{◌≡◌, ◌≢◌, ◌⊎◌, ℕ, ◌+◌, ◌<◌, ◌≤◌, inl, inr, List, [], ◌∷◌, None, Some, length, replicate, refl, sym, ap, ◌∙◌, subst, arith}
use Rattle.std.proofs.lemmas.List.{length-replicate}
use Rattle.std.proofs.lemmas.List.Elements.{All-cons, All-head, All-nil, All-replicate}
use Rattle.facet_base.specs.declared.layout.ShapeId.{ShapeId}
use Rattle.facet_block.proofs.Ranges.{changed_moved_in, item_elsewhere, item_there, size_empty, size_with_item}
use Rattle.facet_block.specs.Block.{empty_block, item_at, moved_in, moved_out, size_of, with_item}
use Rattle.facet_block.specs.Seq.{filled_of, spare_of}
use Rattle.facet_block.specs.Span.{IsBeside, IsChanged, IsCleared, IsVacant, span}
use Rattle.facet_block.specs.declared.block.Block.{Block}
use Rattle.facet_block.specs.declared.block.Item.{Sequence}
use Rattle.facet_block.specs.declared.block.Seq.{Seq}
use Rattle.facet_causes.specs.Causes.{IsWellFormed}
use Rattle.facet_contain.proofs.ContainerKinds.{box_is, list_is, map_is, set_is}
use Rattle.facet_contain.proofs.HeldParts.{element_known, element_shape, one}
use Rattle.facet_contain.specs.Parts.{part_shape}
use Rattle.facet_init.specs.NewSequences.{one_block, spare_blocks}
use Rattle.facet_leaf.specs.LeafModel.{LeafModel}
use Rattle.facet_lists.proofs.ListChanges.{filled_by_size}
use Rattle.facet_lists.specs.Sequences.{block_of_moved}
use Rattle.facet_outline.specs.declared.value_kind.ValueKind.TheVariants as kind
use Rattle.facet_registry.specs.Registry.{kind_at, size_at}
use Rattle.facet_shape.specs.declared.shape.Shape.{Shape}
use Rattle.facet_trees.specs.Ascending.{IsInOrder}
use Rattle.facet_trees.specs.Structure.{block_body, block_size, sequence, structure_at}
use Rattle.facet_trees.specs.Value.{Value, Values, more, node, none}
use Rattle.facet_trees.specs.declared.form.Form.{Form}
use Rattle.facet_trees.specs.declared.form.Form.TheVariants as form
use Rattle.facet_values.proofs.LaidOut.{laid_out, size_there}
use Rattle.facet_values.proofs.MovedValues.{moved_cleared, moved_reads}
use Rattle.facet_values.proofs.StructureRows.{blocks_made, filled_made, order_from, seen_there, spare_made, whole_from}
use Rattle.facet_values.proofs.WholePlaces.{lies_in_block}
use Rattle.facet_values.specs.Laid.{has_own_item}
use Rattle.facet_values.specs.Place.{block_places, own_item, place_in, start_of}
use Rattle.facet_values.specs.Reading.{IsFilled, IsItemOf, IsLengthOf, IsReadable, IsSequenceOf, ReadAll, Reads}
use Rattle.facet_values.specs.Seen.{seen_by}

pub not_first : (i start len : ℕ) → 0 < len → IsBeside i (span start len) → i ≢ start
not_first i start len some (inl before) = omega arith
not_first i start len some (inr behind) = omega arith

pub not_here : (at i : ℕ) → IsBeside i (span 0 1) → at + i ≢ at
not_here at i (inl before) = absurd (omega arith)
not_here at i (inr behind) = omega arith

-- the values of a shape are sequences
pub record HasSequence (shapes : List Shape) (s : ℕ) : Type 0 where
  pub form : Form
  pub ids : List ShapeId
  pub of : structure_at shapes s ≡ sequence form ids

pub growing : (shapes : List Shape) (s : ℕ) → (kind_at shapes s ≡ kind.List) ⊎ ((kind_at shapes s ≡ kind.Map) ⊎ (kind_at shapes s ≡ kind.Set)) → HasSequence shapes s
growing shapes s (inl list) = let (element, made_up) = list_is shapes s list in record { form = form.List; ids = element ∷ []; of = made_up }
growing shapes s (inr (inl map)) = let (key, (value, made_up)) = map_is shapes s map in record { form = form.Map; ids = key ∷ value ∷ []; of = made_up }
growing shapes s (inr (inr set)) = let (element, made_up) = set_is shapes s set in record { form = form.Set; ids = element ∷ []; of = made_up }

pub boxed : {L : Type 0} (m : LeafModel L) (shapes : List Shape) (well : IsWellFormed m shapes) (s : ℕ) → kind_at shapes s ≡ kind.Box → HasSequence shapes s
boxed m shapes well s box = let (content, made_up) = box_is shapes s m well box in record { form = form.Box; ids = content ∷ []; of = made_up }

-- as many spare blocks as were wanted
spare_counted : {L : Type 0} (t : Seq L) (n count : ℕ) → t ≡ spare_blocks n count → count ≤ length (spare_of t)
spare_counted {L} t n count is =
    let blank = replicate count (empty_block {X = L} n) in
    omega (arith, ap (λ u. length (spare_of u)) is ∙ ap length (spare_made n [] blank) ∙ length-replicate count (empty_block {X = L} n))

module _ {L : Type 0} (m : LeafModel L) (shapes : List Shape) (well : IsWellFormed m shapes) (s : ℕ) (sealed : s < length shapes) (old : Block L) (at : ℕ) (vacant : IsVacant old (span at (size_at shapes s))) where
  module _ (form : Form) (ids : List ShapeId) (of : structure_at shapes s ≡ sequence form ids) where
    has_byte : 0 < size_at shapes s
    has_byte = (laid_out m shapes well s sealed).own (ap has_own_item of)

    pub place_below : at < size_of old
    place_below = omega (arith, vacant.inside, has_byte)

    pub place_empty : item_at old at ≡ None
    place_empty = vacant.empty at (omega arith, omega (arith, has_byte))

    module _ (t : Seq L) where
      abbrev put : Block L
      put = with_item old at (Some (Sequence t))

      pub put_changes : IsChanged old put (span at (size_at shapes s))
      put_changes = record {
        size = size_with_item old at (Some (Sequence t));
        outside = λ i beside. item_elsewhere old at (Some (Sequence t)) i (not_first i at (size_at shapes s) has_byte beside);
      }

      pub put_reads : (vs : Values L) → IsSequenceOf shapes form ids t → ReadAll m shapes (block_places (block_body shapes ids) (filled_of t)) vs → IsInOrder m shapes (sequence form ids) vs
          → Reads m shapes (place_in s put at) (node form vs)
      put_reads vs sound reads ordered =
          let p = place_in s put at in
          let item : own_item p ≡ Some (Sequence t) = item_there old at (Some (Sequence t)) place_below in (
            block_places (block_body shapes ids) (filled_of t),
            whole_from m shapes p (sequence form ids) of
                (record {
                  inside = omega (arith, vacant.inside, size_with_item old at (Some (Sequence t)));
                  alone = λ i below beside.
                      item_elsewhere old at (Some (Sequence t)) (at + i) (not_here at i (All-head (IsBeside i) (span 0 1) [] beside)) ∙ vacant.empty (at + i) (omega arith, omega (arith, below));
                })
                (subst (λ o. IsItemOf m shapes (sequence form ids) o) (sym item) sound),
            seen_there m shapes p (sequence form ids) of ∙ ap (λ o. seen_by shapes (sequence form ids) p o) item,
            reads,
            order_from m shapes p (sequence form ids) of vs ordered,
          )

      -- a sequence without a filled block
      pub spare_reads : (n count : ℕ) → n ≡ block_size shapes ids → t ≡ spare_blocks n count → IsLengthOf form 0 → IsInOrder m shapes (sequence form ids) none → Reads m shapes (place_in s put at) (node form none)
      spare_reads n count sized is any ordered =
          let blank = replicate count (empty_block {X = L} n) in
          let sound : IsSequenceOf shapes form ids (spare_blocks n count) =
          blocks_made m shapes ids form n [] blank sized (All-nil (IsFilled shapes ids))
          (All-replicate (λ b. b ≡ empty_block (block_size shapes ids)) count (empty_block n) (ap empty_block sized)) any in
          let filled : filled_of t ≡ [] = ap filled_of is ∙ filled_made n [] blank in
          put_reads none (subst (IsSequenceOf shapes form ids) (sym is) sound) (subst (λ bs. ReadAll m shapes (block_places (block_body shapes ids) bs) none) (sym filled) tt) ordered

    -- the spare blocks of what lies there
    pub room_there : (t : Seq L) (n count : ℕ) → t ≡ spare_blocks n count → (new : Block L) → new ≡ with_item old at (Some (Sequence t)) → (bs : Seq L) → item_at new at ≡ Some (Sequence bs) → count ≤ length (spare_of bs)
    room_there t n count is new put_there bs item =
        let e : Some (Sequence bs) ≡ Some (Sequence t) = sym item ∙ ap (λ b. item_at b at) put_there ∙ item_there old at (Some (Sequence t)) place_below in
        let same : bs ≡ t = cc in
        subst (λ u. count ≤ length (spare_of u)) (sym same) (spare_counted t n count is)

  -- an empty list, an empty map and an empty set
  module _ (t : Seq L) (n count : ℕ) (sized : (form : Form) (ids : List ShapeId) → structure_at shapes s ≡ sequence form ids → n ≡ block_size shapes ids) (is : t ≡ spare_blocks n count) where
    pub list_reads : kind_at shapes s ≡ kind.List → Reads m shapes (place_in s (with_item old at (Some (Sequence t))) at) (node form.List none)
    list_reads of =
        let (element, made_up) = list_is shapes s of in
        spare_reads form.List (element ∷ []) made_up t n count (sized form.List (element ∷ []) made_up) is tt (λ i j d before below. absurd (omega arith))

    pub set_reads : kind_at shapes s ≡ kind.Set → Reads m shapes (place_in s (with_item old at (Some (Sequence t))) at) (node form.Set none)
    set_reads of =
        let (element, made_up) = set_is shapes s of in
        spare_reads form.Set (element ∷ []) made_up t n count (sized form.Set (element ∷ []) made_up) is tt (λ i j d before below. absurd (omega arith))

    pub map_reads : kind_at shapes s ≡ kind.Map → Reads m shapes (place_in s (with_item old at (Some (Sequence t))) at) (node form.Map none)
    map_reads of =
        let (key, (value, made_up)) = map_is shapes s of in
        spare_reads form.Map (key ∷ value ∷ []) made_up t n count (sized form.Map (key ∷ value ∷ []) made_up) is tt (λ i j d before below. absurd (omega arith))

  -- a box of a value that is moved there
  module _ (of : kind_at shapes s ≡ kind.Box) (source : Block L) (from : ℕ) (r : IsReadable m shapes (place_in (part_shape shapes s form.Box 0) source from))
      (n : ℕ) (sized : (form : Form) (ids : List ShapeId) → structure_at shapes s ≡ sequence form ids → n ≡ block_size shapes ids) where
    abbrev content : ShapeId
    content = (box_is shapes s m well of).0

    abbrev made_up : structure_at shapes s ≡ sequence form.Box (content ∷ [])
    made_up = (box_is shapes s m well of).1

    abbrev part : ℕ
    part = part_shape shapes s form.Box 0

    shape_is : part ≡ content.0
    shape_is = element_shape m shapes (place_in s old at) form.Box content made_up 0

    pub bytes_are : n ≡ size_at shapes part
    bytes_are = sized form.Box (content ∷ []) made_up ∙ size_there shapes content ∙ ap (size_at shapes) (sym shape_is)

    pub source_inside : from + n ≤ size_of source
    source_inside = omega (arith, bytes_are, lies_in_block m shapes (place_in part source from) r.value r.reads)

    abbrev block : Block L
    block = block_of_moved n source from

    block_bytes : size_of block ≡ block_size shapes (content ∷ [])
    block_bytes =
        let room : 0 + n ≤ size_of (empty_block {X = L} n) = omega (arith, size_empty L n) in
        (changed_moved_in (empty_block n) 0 source from n room source_inside).size ∙ size_empty L n ∙ sized form.Box (content ∷ []) made_up

    pub box_cleared : (left : Block L) → left ≡ moved_out source from n → IsCleared source left (span from (size_at shapes part))
    box_cleared left is =
        subst (λ b. IsCleared source b (span from (size_at shapes part))) (sym (is ∙ ap (moved_out source from) bytes_are)) (moved_cleared m shapes (place_in part source from) r.value r.reads)

    pub box_is_put : (t : Seq L) → t ≡ one_block n block → (new : Block L) → new ≡ with_item old at (Some (Sequence t))
        → new ≡ with_item old at (Some (Sequence (one_block (size_at shapes part) (block_of_moved (size_at shapes part) source from))))
    box_is_put t is new put_there =
        put_there ∙ ap (λ u. with_item old at (Some (Sequence u))) is ∙ ap (λ k. with_item old at (Some (Sequence (one_block k (block_of_moved k source from))))) bytes_are

    pub box_reads : (t : Seq L) → t ≡ one_block n block → (v : Value L) → Reads m shapes (place_in part source from) v
        → Reads m shapes (place_in s (with_item old at (Some (Sequence t))) at) (node form.Box (more v none))
    box_reads t is v reads =
        let there = subst (λ k. Reads m shapes (place_in k source from) v) shape_is reads in
        let known = element_known m shapes (place_in s old at) form.Box content made_up (laid_out m shapes well s sealed) in
        let size : n ≡ size_at shapes content.0 = bytes_are ∙ ap (size_at shapes) shape_is in
        let moved = moved_reads m shapes (place_in content.0 source from) v there (laid_out m shapes well) known (empty_block n) 0 (omega (arith, size, size_empty L n)) in
        let reads_b : Reads m shapes (start_of content.0 block) v = subst (λ k. Reads m shapes (start_of content.0 (moved_in (empty_block n) 0 source from k)) v) (sym size) moved in
        let Filled : Block L → Type 0 = IsFilled shapes (content ∷ []) in
        let Blank : Block L → Type 0 = λ b. b ≡ empty_block (block_size shapes (content ∷ [])) in
        let sound : IsSequenceOf shapes form.Box (content ∷ []) (one_block n block) =
        blocks_made m shapes (content ∷ []) form.Box n (block ∷ []) [] (sized form.Box (content ∷ []) made_up) (All-cons Filled block [] (filled_by_size m shapes content block block_bytes) (All-nil Filled)) (All-nil Blank) refl in
        let filled : filled_of t ≡ block ∷ [] = ap filled_of is ∙ filled_made n (block ∷ []) [] in
        put_reads form.Box (content ∷ []) made_up t (more v none) (subst (IsSequenceOf shapes form.Box (content ∷ [])) (sym is) sound)
        (subst (λ bs. ReadAll m shapes (block_places (one content 0) bs) (more v none)) (sym filled) (reads_b, tt)) (λ i j d before below. absurd (omega arith))

-- What a place of a list reads as once its sequence is another one.
use Rattle.std.proofs.Common.{◌≡◌, ℕ, ◌-◌, ◌<◌, inl, inr, List, [], ◌∷◌, ◌++◌, All, Some, drop, get_or, length, replicate, slice_set, swap, take, refl, sym, ap, ◌∙◌, subst, arith}
use Rattle.std.proofs.lemmas.List.Edits.{swap_is}
use Rattle.std.proofs.lemmas.List.Elements.{All-append, All-cons, All-drop, All-head, All-push, All-replicate, All-set, All-take}
use Rattle.facet_base.specs.declared.layout.ShapeId.{ShapeId}
use Rattle.facet_block.proofs.Ranges.{changed_with_item, item_there}
use Rattle.facet_block.specs.Block.{empty_block, size_of, with_item}
use Rattle.facet_block.specs.Seq.{element_size_of, filled_of, spare_of, with_filled, with_new_spare}
use Rattle.facet_block.specs.Span.{IsBeside, IsEmptyIn, span}
use Rattle.facet_block.specs.declared.block.Block.{Block}
use Rattle.facet_block.specs.declared.block.Item.{Sequence}
use Rattle.facet_block.specs.declared.block.Seq.{Seq}
use Rattle.facet_contain.proofs.HeldParts.{element_shape, one}
use Rattle.facet_contain.specs.Parts.{parts_of, values_of}
use Rattle.facet_leaf.specs.LeafModel.{LeafModel}
use Rattle.facet_registry.specs.Registry.{size_at}
use Rattle.facet_shape.specs.declared.shape.Shape.{Shape}
use Rattle.facet_trees.specs.Structure.{block_size, sequence, structure_at}
use Rattle.facet_trees.specs.Value.{Value, node}
use Rattle.facet_trees.specs.declared.form.Form.TheVariants as form
use Rattle.facet_values.proofs.LaidOut.{size_there}
use Rattle.facet_values.proofs.ReplacedParts.{item_within, sequence_exchanged}
use Rattle.facet_values.proofs.StructureRows.{blocks_made, filled_made, item_of, reads_from_sequence, sequence_from_reads, size_made, spare_made}
use Rattle.facet_values.proofs.WholePlaces.{is_whole}
use Rattle.facet_values.specs.Place.{Place, block_places, own_item, place_in, start_of}
use Rattle.facet_values.specs.Reading.{IsFilled, IsItemOf, IsSequenceOf, ReadAll, Reads}
use Rattle.facet_values.specs.Rows.{HoldsOnly}
use Rattle.facet_lists.proofs.ElementLists.{Each, each_from, each_length, each_push, each_swap, each_take, values_listed}
use Rattle.facet_lists.specs.Elements.{HoldsFirst, ReadEach, element_at}
use Rattle.facet_lists.specs.Sequences.{all_blocks, cut_at, with_last, with_room, without_last}

all_swap : {X : Type 0} (P : X → Type 0) (xs : List X) (i j : ℕ) → i < length xs → j < length xs → All P xs → All P (swap xs i j)
all_swap P [] i j first second all = absurd (omega arith)
all_swap P (x ∷ xs) i j first second all =
    subst (All P) (swap_is (x ∷ xs) i j x first second)
    (All-set P (slice_set (x ∷ xs) i (get_or (x ∷ xs) j x)) j (get_or (x ∷ xs) i x) (all i x first) (All-set P (x ∷ xs) i (get_or (x ∷ xs) j x) (all j x second) all))

module _ {L : Type 0} (m : LeafModel L) (shapes : List Shape) where
  module _ (element : ShapeId) where
    abbrev ids : List ShapeId
    ids = element ∷ []

    size_is : block_size shapes ids ≡ size_at shapes element.0
    size_is = size_there shapes element

    -- a block of the elements' size holds nothing beside the element
    pub filled_by_size : (b : Block L) → size_of b ≡ block_size shapes ids → IsFilled shapes ids b
    filled_by_size b same = record {
      size = same;
      alone = λ i below beside. elim (All-head (IsBeside i) (span 0 (size_at shapes element.0)) [] beside) [
        | inl before ↦ absurd (omega arith)
        | inr behind ↦ absurd (omega (arith, size_is))
      ];
    }

    module _ (p : Place L) (of : structure_at shapes p.shape ≡ sequence form.List ids) where
      -- what a place that reads as a list holds
      pub record IsListAt (v : Value L) : Type 0 where
        pub blocks : Seq L
        pub item : own_item p ≡ Some (Sequence blocks)
        pub sound : IsSequenceOf shapes form.List ids blocks
        pub each : Each m shapes element (filled_of blocks) (parts_of v)
        pub value : v ≡ node form.List (values_of (parts_of v))

      pub list_from_reads : (v : Value L) → Reads m shapes p v → IsListAt v
      list_from_reads v reads =
          let by = sequence_from_reads m shapes p form.List ids of v reads in
          let parts : values_of (parts_of v) ≡ by.parts = ap (λ w. values_of (parts_of w)) by.is.value ∙ values_listed by.parts in
          record {
            blocks = by.is.blocks;
            item = by.is.item;
            sound = subst (λ o. IsItemOf m shapes (sequence form.List ids) o) by.is.item (item_of m shapes p (sequence form.List ids) of (is_whole m shapes p v reads));
            each = subst (λ vs. ReadAll m shapes (block_places (one element 0) (filled_of by.is.blocks)) vs) (sym parts) by.is.reads;
            value = by.is.value ∙ ap (node form.List) (sym parts);
          }

      module _ (v : Value L) (reads : Reads m shapes p v) where
        -- another sequence of elements in place of the one that was there
        pub exchanged : (t : Seq L) (ws : List (Value L)) (new : Block L) → IsSequenceOf shapes form.List ids t → Each m shapes element (filled_of t) ws
            → new ≡ with_item p.block p.offset (Some (Sequence t)) → Reads m shapes (place_in p.shape new p.offset) (node form.List (values_of ws))
        exchanged t ws new sound each is =
            let at = list_from_reads v reads in
            subst (λ b. Reads m shapes (place_in p.shape b p.offset) (node form.List (values_of ws))) (sym is)
            (sequence_exchanged m shapes p form.List ids of (with_item p.block p.offset (Some (Sequence t))) (changed_with_item p.block p.offset (Some (Sequence t))) t
            (item_there p.block p.offset (Some (Sequence t)) (item_within p.block p.offset (Sequence at.blocks) at.item))
            v (values_of ws) sound each (λ i j d before below. absurd (omega arith)) reads)

        module _ (bs : Seq L) (item : own_item p ≡ Some (Sequence bs)) where
          -- the sequence that is there
          pub sound_at : IsSequenceOf shapes form.List ids bs
          sound_at = subst (λ o. IsItemOf m shapes (sequence form.List ids) o) item (item_of m shapes p (sequence form.List ids) of (is_whole m shapes p v reads))

          pub each_there : Each m shapes element (filled_of bs) (parts_of v)
          each_there =
              let at = list_from_reads v reads in
              let same : at.blocks ≡ bs = (let e = sym at.item ∙ item in cc) in
              subst (λ s. Each m shapes element (filled_of s) (parts_of v)) same at.each

          pub counted_there : length (filled_of bs) ≡ length (parts_of v)
          counted_there = each_length m shapes element (filled_of bs) (parts_of v) each_there

          -- two elements are exchanged
          pub swapped : (new : Block L) (i j : ℕ) → i < length (filled_of bs) → j < length (filled_of bs)
              → new ≡ with_item p.block p.offset (Some (Sequence (with_filled bs (swap (filled_of bs) i j)))) → Reads m shapes (place_in p.shape new p.offset) (node form.List (values_of (swap (parts_of v) i j)))
          swapped new i j first second is =
              let blocks = swap (filled_of bs) i j in
              exchanged (with_filled bs blocks) (swap (parts_of v) i j) new
              (blocks_made m shapes ids form.List (element_size_of bs) blocks (spare_of bs) sound_at.element_size (all_swap (IsFilled shapes ids) (filled_of bs) i j first second sound_at.filled) sound_at.spare tt)
              (subst (λ xs. Each m shapes element xs (swap (parts_of v) i j)) (sym (filled_made (element_size_of bs) blocks (spare_of bs)))
              (each_swap m shapes element (filled_of bs) (parts_of v) i j each_there first second))
              is

          -- new spare blocks are added
          abbrev roomy : ℕ → Seq L
          roomy k = with_new_spare bs k

          roomy_sound : (k : ℕ) → IsSequenceOf shapes form.List ids (roomy k)
          roomy_sound k =
              let new = empty_block (element_size_of bs) in
              blocks_made m shapes ids form.List (element_size_of bs) (filled_of bs) (spare_of bs ++ replicate k new) sound_at.element_size sound_at.filled
              (All-append (λ b. b ≡ empty_block (block_size shapes ids)) (spare_of bs) (replicate k new) sound_at.spare
              (All-replicate (λ b. b ≡ empty_block (block_size shapes ids)) k new (ap empty_block sound_at.element_size)))
              tt

          roomy_each : (k : ℕ) → Each m shapes element (filled_of (roomy k)) (parts_of v)
          roomy_each k =
              subst (λ xs. Each m shapes element xs (parts_of v)) (sym (filled_made (element_size_of bs) (filled_of bs) (spare_of bs ++ replicate k (empty_block (element_size_of bs))))) each_there

          pub held : (new : Block L) (k : ℕ) → new ≡ with_item p.block p.offset (Some (Sequence (with_new_spare bs k))) → Reads m shapes (place_in p.shape new p.offset) v
          held new k is =
              let at = list_from_reads v reads in
              subst (λ w. Reads m shapes (place_in p.shape new p.offset) w) (sym at.value) (exchanged (roomy k) (parts_of v) new (roomy_sound k) (roomy_each k) is)

          -- a block is filled behind the others
          pub pushed : (new b : Block L) (w : Value L) → size_of b ≡ block_size shapes ids → Reads m shapes (start_of element.0 b) w
              → new ≡ with_item p.block p.offset (Some (Sequence (with_last (with_room 1 bs) b))) → Reads m shapes (place_in p.shape new p.offset) (node form.List (values_of (parts_of v ++ w ∷ [])))
          pushed new b w size reads_b is =
              let k = 1 - length (spare_of bs) in
              let r = roomy k in
              let sound = roomy_sound k in
              exchanged (with_last r b) (parts_of v ++ w ∷ []) new
              (blocks_made m shapes ids form.List (element_size_of r) (filled_of r ++ b ∷ []) (drop 1 (spare_of r)) sound.element_size
              (All-push (IsFilled shapes ids) (filled_of r) b sound.filled (filled_by_size b size)) (All-drop (λ c. c ≡ empty_block (block_size shapes ids)) 1 (spare_of r) sound.spare) tt)
              (subst (λ xs. Each m shapes element xs (parts_of v ++ w ∷ [])) (sym (filled_made (element_size_of r) (filled_of r ++ b ∷ []) (drop 1 (spare_of r))))
              (each_push m shapes element (filled_of r) (parts_of v) b w (roomy_each k) reads_b))
              is

          -- the last block is emptied
          pub popped : (new : Block L) → new ≡ with_item p.block p.offset (Some (Sequence (without_last bs)))
              → Reads m shapes (place_in p.shape new p.offset) (node form.List (values_of (take (length (parts_of v) - 1) (parts_of v))))
          popped new is =
              let k = length (filled_of bs) - 1 in
              let filled = take k (filled_of bs) in
              let spare = empty_block (element_size_of bs) ∷ spare_of bs in
              exchanged (without_last bs) (take (length (parts_of v) - 1) (parts_of v)) new
              (blocks_made m shapes ids form.List (element_size_of bs) filled spare sound_at.element_size (All-take (IsFilled shapes ids) k (filled_of bs) sound_at.filled)
              (All-cons (λ b. b ≡ empty_block (block_size shapes ids)) (empty_block (element_size_of bs)) (spare_of bs) (ap empty_block sound_at.element_size) sound_at.spare) tt)
              (subst (λ xs. Each m shapes element xs (take (length (parts_of v) - 1) (parts_of v))) (sym (filled_made (element_size_of bs) filled spare))
              (subst (λ j. Each m shapes element filled (take (j - 1) (parts_of v))) counted_there (each_take m shapes element k (filled_of bs) (parts_of v) each_there)))
              is

    -- a sequence whose first blocks hold elements, cut there
    module _ (q : Place L) (of : structure_at shapes q.shape ≡ sequence form.List ids) (n : ℕ) (bs : Seq L) (first : HoldsFirst m shapes (element_at shapes q.shape) n bs) where
      shape_is : element_at shapes q.shape ≡ element.0
      shape_is = element_shape m shapes q form.List element of 0

      bytes : size_at shapes (element_at shapes q.shape) ≡ block_size shapes ids
      bytes = ap (size_at shapes) shape_is ∙ sym size_is

      abbrev IsSized : Block L → Type 0
      IsSized b = size_of b ≡ block_size shapes ids

      sized : All IsSized (all_blocks bs)
      sized = subst (λ k. All (λ b. size_of b ≡ k) (all_blocks bs)) bytes first.sizes

      abbrev IsBlank : Block L → Type 0
      IsBlank b = IsEmptyIn b (span 0 (block_size shapes ids))

      blank : All IsBlank (drop n (all_blocks bs))
      blank = subst (λ k. All (λ b. IsEmptyIn b (span 0 k)) (drop n (all_blocks bs))) bytes first.empty

      pub cut_reads : own_item q ≡ Some (Sequence (cut_at n bs)) → HoldsOnly m shapes q (span 0 1 ∷ []) → (ws : List (Value L)) → ReadEach m shapes (element_at shapes q.shape) (take n (all_blocks bs)) ws
          → Reads m shapes q (node form.List (values_of ws))
      cut_reads item holds ws reads =
          let filled = take n (all_blocks bs) in
          let spare = drop n (all_blocks bs) in
          let filled_is = filled_made (element_size_of bs) filled spare in
          let spare_is = spare_made (element_size_of bs) filled spare in
          let each = each_from m shapes element filled ws (subst (λ e. ReadEach m shapes e filled ws) shape_is reads) in
          reads_from_sequence m shapes q form.List ids of (node form.List (values_of ws))
          (record {
            parts = values_of ws;
            is = record {
              blocks = cut_at n bs;
              item = item;
              holds = holds;
              element_size = size_made (element_size_of bs) filled spare ∙ first.element_size ∙ bytes;
              sizes = All-append IsSized (filled_of (cut_at n bs)) (spare_of (cut_at n bs)) (subst (All IsSized) (sym filled_is) (All-take IsSized n (all_blocks bs) sized)) (subst (All IsSized) (sym spare_is) (All-drop IsSized n (all_blocks bs) sized));
              alone = λ k d below i under beside. elim (All-head (IsBeside i) (span 0 (size_at shapes element.0)) [] beside) [
                | inl before ↦ absurd (omega arith)
                | inr behind ↦ absurd (omega (arith, size_is))
              ];
              spare = subst (All IsBlank) (sym spare_is) blank;
              reads = subst (λ xs. Each m shapes element xs ws) (sym filled_is) each;
              value = refl;
            };
            many = tt;
            ordered = λ i j d before below. absurd (omega arith);
          })

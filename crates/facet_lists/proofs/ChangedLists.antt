-- What the calls leave of a list, by the kind of its shape.
use Rattle.std.proofs.Common.{◌≡◌, ◌≢◌, ◌↔◌, ℕ, ◌+◌, ◌-◌, ◌<◌, ◌≤◌, inl, inr, Bool, true, List, [], ◌∷◌, ◌++◌, All, Option, None, Some, Result, Ok, Err, OnErr, length, slice_get, slice_set, swap, take, sym, ap, ◌∙◌, subst, arith}
use Rattle.std.specs.Prelude.{IsTrue, OnOk}
use Rattle.std.proofs.lemmas.List.Elements.{All-head}
use Rattle.facet_base.proofs.Lists.{All_at}
use Rattle.facet_base.specs.declared.layout.ShapeId.{ShapeId}
use Rattle.facet_block.proofs.Ranges.{changed_moved_in, cleared_moved_out, item_elsewhere, item_there, size_empty, size_with_item}
use Rattle.facet_block.specs.Block.{empty_block, item_at, moved_in, moved_out, size_of, with_item}
use Rattle.facet_block.specs.Seq.{element_size_of, filled_of, spare_of, with_filled, with_new_spare}
use Rattle.facet_block.specs.Span.{IsBeside, IsChanged, IsCleared, IsVacant, span}
use Rattle.facet_block.specs.declared.block.Block.{Block}
use Rattle.facet_block.specs.declared.block.Item.{Item, Sequence}
use Rattle.facet_block.specs.declared.block.Seq.{Seq}
use Rattle.facet_causes.specs.Causes.{IsWellFormed}
use Rattle.facet_contain.proofs.ContainerKinds.{list_is}
use Rattle.facet_contain.proofs.HeldParts.{element_known, element_shape}
use Rattle.facet_contain.specs.Parts.{parts_of, values_of}
use Rattle.facet_leaf.specs.LeafModel.{LeafModel}
use Rattle.facet_outline.specs.declared.value_kind.ValueKind.TheVariants as kind
use Rattle.facet_registry.specs.Registry.{kind_at, size_at}
use Rattle.facet_shape.specs.declared.shape.Shape.{Shape}
use Rattle.facet_trees.specs.Structure.{sequence, structure_at}
use Rattle.facet_trees.specs.Value.{Value, node}
use Rattle.facet_trees.specs.declared.form.Form.TheVariants as form
use Rattle.facet_values.proofs.LaidOut.{laid_out, size_there}
use Rattle.facet_values.proofs.MovedValues.{moved_cleared, moved_reads}
use Rattle.facet_values.proofs.ReplacedParts.{item_within}
use Rattle.facet_values.proofs.StructureRows.{empty_is}
use Rattle.facet_values.proofs.WholePlaces.{lies_in_block}
use Rattle.facet_values.specs.Laid.{has_own_item}
use Rattle.facet_values.specs.Place.{Place, own_item, place_in, start_of}
use Rattle.facet_values.specs.Reading.{IsFilled, IsReadable, Reads}
use Rattle.facet_values.specs.Rows.{HoldsOnly}
use Rattle.facet_lists.proofs.ElementLists.{each_get, with_item_same}
use Rattle.facet_lists.proofs.FilledBlocks.{emptied_last, there_is}
use Rattle.facet_lists.proofs.ListChanges.{IsListAt, counted_there, cut_reads, each_there, held, list_from_reads, popped, pushed, sound_at, swapped}
use Rattle.facet_lists.specs.Elements.{HoldsFirst, HoldsSequence, ReadEach, element_at}
use Rattle.facet_lists.specs.Sequences.{all_blocks, block_of_moved, cut_at, with_last, with_room, without_last}

-- what follows where a call was accepted, or refused
pub on_ok : {T E P Q : Type 0} (o : Result T E) → (P → Q) → OnOk o P → OnOk o Q
on_ok (Ok x) f p = f p
on_ok (Err e) f p = tt

pub on_error : {T E P Q : Type 0} (o : Result T E) → (P → Q) → OnErr o P → OnErr o Q
on_error (Ok x) f p = tt
on_error (Err e) f p = f p

not_here : (at i : ℕ) → IsBeside i (span 0 1) → at + i ≢ at
not_here at i (inl before) = absurd (omega arith)
not_here at i (inr behind) = omega arith

module _ {L : Type 0} {m : LeafModel L} {shapes : List Shape} {p : Place L} {n : ℕ} (h : HoldsSequence m shapes n p) (of : kind_at shapes p.shape ≡ kind.List) where
  holds_still : (o : Option (Item L)) (new : Block L) → new ≡ with_item p.block p.offset o → HoldsOnly m shapes (place_in p.shape new p.offset) (span 0 1 ∷ [])
  holds_still o new is = record {
    inside = omega (arith, h.holds.inside, ap size_of is, size_with_item p.block p.offset o);
    alone = λ i below beside.
        ap (λ b. item_at b (p.offset + i)) is
        ∙ item_elsewhere p.block p.offset o (p.offset + i) (not_here p.offset i (All-head (IsBeside i) (span 0 1) [] beside))
        ∙ h.holds.alone i below beside;
  }

  -- the first blocks are made the elements
  pub set_len_reads : (new : Block L) → ((bs : Seq L) → own_item p ≡ Some (Sequence bs) → new ≡ with_item p.block p.offset (Some (Sequence (cut_at n bs))))
      → (bs : Seq L) → own_item p ≡ Some (Sequence bs) → (ws : List (Value L)) → ReadEach m shapes (element_at shapes p.shape) (take n (all_blocks bs)) ws
      → Reads m shapes (place_in p.shape new p.offset) (node form.List (values_of ws))
  set_len_reads new is bs item ws reads =
      let (element, made_up) = list_is shapes p.shape of in
      let same : h.blocks ≡ bs = (let e = sym h.item ∙ item in cc) in
      let first = subst (HoldsFirst m shapes (element_at shapes p.shape) n) same h.first in
      let o = Some (Sequence (cut_at n bs)) in
      let there = ap (λ b. item_at b p.offset) (is bs item) ∙ item_there p.block p.offset o (item_within p.block p.offset (Sequence bs) item) in
      cut_reads m shapes element (place_in p.shape new p.offset) made_up n bs first there (holds_still o new (is bs item)) ws reads

-- a list that is made of a sequence, in an empty range
module _ {L : Type 0} (m : LeafModel L) (shapes : List Shape) {s : ℕ} {old : Block L} {at : ℕ} (well : IsWellFormed m shapes) (sealed : s < length shapes) (of : kind_at shapes s ≡ kind.List)
    (vacant : IsVacant old (span at (size_at shapes s))) where
  has_byte : 0 < size_at shapes s
  has_byte = (laid_out m shapes well s sealed).own (ap has_own_item (list_is shapes s of).1)

  pub place_below : at < size_of old
  place_below = omega (arith, vacant.inside, has_byte)

  pub place_empty : item_at old at ≡ None
  place_empty = vacant.empty at (omega arith, omega (arith, has_byte))

  holds_new : (o : Option (Item L)) → HoldsOnly m shapes (place_in s (with_item old at o) at) (span 0 1 ∷ [])
  holds_new o = record {
    inside = omega (arith, vacant.inside, size_with_item old at o);
    alone = λ i below beside.
        item_elsewhere old at o (at + i) (not_here at i (All-head (IsBeside i) (span 0 1) [] beside)) ∙ vacant.empty (at + i) (omega arith, omega (arith, below));
  }

  pub made_of : {n : ℕ} {parts : Seq L} → HoldsFirst m shapes (element_at shapes s) n parts → (new : Block L) (t : Seq L) → t ≡ cut_at n parts → new ≡ with_item old at (Some (Sequence t))
      → (ws : List (Value L)) → ReadEach m shapes (element_at shapes s) (take n (all_blocks parts)) ws → Reads m shapes (place_in s new at) (node form.List (values_of ws))
  made_of {n} {parts} first new t cut is ws reads =
      let (element, made_up) = list_is shapes s of in
      let o = Some (Sequence (cut_at n parts)) in
      let whole : new ≡ with_item old at o = is ∙ ap (λ u. with_item old at (Some (Sequence u))) cut in
      subst (λ b. Reads m shapes (place_in s b at) (node form.List (values_of ws))) (sym whole)
      (cut_reads m shapes element (place_in s (with_item old at o) at) made_up n parts first (item_there old at o place_below) (holds_new o) ws reads)

module _ {L : Type 0} {m : LeafModel L} {shapes : List Shape} {p : Place L} (r : IsReadable m shapes p) (of : kind_at shapes p.shape ≡ kind.List) where
  abbrev element : ShapeId
  element = (list_is shapes p.shape of).0

  abbrev made_up : structure_at shapes p.shape ≡ sequence form.List (element ∷ [])
  made_up = (list_is shapes p.shape of).1

  abbrev here : IsListAt m shapes element p made_up r.value
  here = list_from_reads m shapes element p made_up r.value r.reads

  -- the indices that are there
  pub inside_is : (len : ℕ) → ((bs : Seq L) → own_item p ≡ Some (Sequence bs) → len ≡ length (filled_of bs)) → (v : Value L) → Reads m shapes p v → len ≡ length (parts_of v)
  inside_is len is v reads = is here.blocks here.item ∙ counted_there m shapes element p made_up v reads here.blocks here.item

  pub swap_reads : (new : Block L) (i j : ℕ) → ((bs : Seq L) → own_item p ≡ Some (Sequence bs) → i < length (filled_of bs)) → ((bs : Seq L) → own_item p ≡ Some (Sequence bs) → j < length (filled_of bs))
      → ((bs : Seq L) → own_item p ≡ Some (Sequence bs) → new ≡ with_item p.block p.offset (Some (Sequence (with_filled bs (swap (filled_of bs) i j)))))
      → (v : Value L) → Reads m shapes p v → Reads m shapes (place_in p.shape new p.offset) (node form.List (values_of (swap (parts_of v) i j)))
  swap_reads new i j first second is v reads =
      swapped m shapes element p made_up v reads here.blocks here.item new i j (first here.blocks here.item) (second here.blocks here.item) (is here.blocks here.item)

  -- whether the indices are there, by the number of filled blocks
  module _ {result : Bool} {i j len : ℕ} (counted : (bs : Seq L) → own_item p ≡ Some (Sequence bs) → len ≡ length (filled_of bs)) (is : IsTrue result ↔ ((i < len) × (j < len))) where
    pub swap_answer : (b : Bool) → result ≡ b → (v : Value L) → Reads m shapes p v → IsTrue b ↔ ((i < length (parts_of v)) × (j < length (parts_of v)))
    swap_answer b same v reads =
        subst (λ k. IsTrue b ↔ ((i < k) × (j < k))) (inside_is len counted v reads) (subst (λ c. IsTrue c ↔ ((i < len) × (j < len))) same is)

    pub swap_made : result ≡ true → (new : Block L) → ((bs : Seq L) → own_item p ≡ Some (Sequence bs) → new ≡ with_item p.block p.offset (Some (Sequence (with_filled bs (swap (filled_of bs) i j)))))
        → (v : Value L) → Reads m shapes p v → Reads m shapes (place_in p.shape new p.offset) (node form.List (values_of (swap (parts_of v) i j)))
    swap_made there new exchanged v reads =
        let below = is.0 there in
        swap_reads new i j (λ bs item. omega (arith, below.0, counted bs item)) (λ bs item. omega (arith, below.1, counted bs item)) exchanged v reads

  pub reserve_reads : {T E : Type 0} (o : Result T E) (new : Block L) (n : ℕ)
      → OnOk o ((bs : Seq L) → own_item p ≡ Some (Sequence bs) → new ≡ with_item p.block p.offset (Some (Sequence (with_room n bs))))
      → OnErr o ((bs : Seq L) → own_item p ≡ Some (Sequence bs) → (made : ℕ) × (made + length (spare_of bs) < n) × (new ≡ with_item p.block p.offset (Some (Sequence (with_new_spare bs made)))))
      → (v : Value L) → Reads m shapes p v → Reads m shapes (place_in p.shape new p.offset) v
  reserve_reads (Ok x) new n ok err v reads = held m shapes element p made_up v reads here.blocks here.item new _ (ok here.blocks here.item)
  reserve_reads (Err e) new n ok err v reads = let made = err here.blocks here.item in held m shapes element p made_up v reads here.blocks here.item new made.0 made.2

  -- the sequence that was there is put again
  pub put_again : (new : Block L) → ((bs : Seq L) → own_item p ≡ Some (Sequence bs) → new ≡ with_item p.block p.offset (Some (Sequence bs))) → new ≡ p.block
  put_again new is = is here.blocks here.item ∙ with_item_same p.block p.offset (Sequence here.blocks) here.item

  -- what a push requires
  pub spare_empty : (bs : Seq L) → own_item p ≡ Some (Sequence bs) → All (λ b. b ≡ empty_block (element_size_of bs)) (spare_of bs)
  spare_empty bs item =
      let sound = sound_at m shapes element p made_up r.value r.reads bs item in
      subst (λ n. All (λ b. b ≡ empty_block n) (spare_of bs)) (sym sound.element_size) sound.spare

  pub bytes_are : (bs : Seq L) → own_item p ≡ Some (Sequence bs) → element_size_of bs ≡ size_at shapes (element_at shapes p.shape)
  bytes_are bs item =
      (sound_at m shapes element p made_up r.value r.reads bs item).element_size ∙ size_there shapes element ∙ ap (size_at shapes) (sym (element_shape m shapes p form.List element made_up 0))

  module _ {source : Block L} {from : ℕ} (e : IsReadable m shapes (place_in (element_at shapes p.shape) source from)) where
    pub source_inside : (bs : Seq L) → own_item p ≡ Some (Sequence bs) → from + element_size_of bs ≤ size_of source
    source_inside bs item = omega (arith, bytes_are bs item, lies_in_block m shapes (place_in (element_at shapes p.shape) source from) e.value e.reads)

    pub source_cleared : (left : Block L) → ((bs : Seq L) → own_item p ≡ Some (Sequence bs) → left ≡ moved_out source from (element_size_of bs))
        → IsCleared source left (span from (size_at shapes (element_at shapes p.shape)))
    source_cleared left is =
        subst (λ b. IsCleared source b (span from (size_at shapes (element_at shapes p.shape)))) (sym (is here.blocks here.item ∙ ap (moved_out source from) (bytes_are here.blocks here.item)))
        (moved_cleared m shapes (place_in (element_at shapes p.shape) source from) e.value e.reads)

    pub push_reads : IsWellFormed m shapes → p.shape < length shapes → (new : Block L)
        → ((bs : Seq L) → own_item p ≡ Some (Sequence bs) → new ≡ with_item p.block p.offset (Some (Sequence (with_last (with_room 1 bs) (block_of_moved (element_size_of bs) source from)))))
        → (v : Value L) → Reads m shapes p v → (w : Value L) → Reads m shapes (place_in (element_at shapes p.shape) source from) w
        → Reads m shapes (place_in p.shape new p.offset) (node form.List (values_of (parts_of v ++ w ∷ [])))
    push_reads well sealed new is v reads w reads_w =
        let shape_is = element_shape m shapes p form.List element made_up 0 in
        let known = element_known m shapes p form.List element made_up (laid_out m shapes well p.shape sealed) in
        let bs = here.blocks in
        let size = bytes_are bs here.item ∙ ap (size_at shapes) shape_is in
        let n = element_size_of bs in
        let block = block_of_moved n source from in
        let room : 0 + n ≤ size_of (empty_block {X = L} n) = omega (arith, size_empty L n) in
        let in_source = source_inside bs here.item in
        let has = (changed_moved_in (empty_block n) 0 source from n room in_source).size ∙ size_empty L n in
        let there = subst (λ s. Reads m shapes (place_in s source from) w) shape_is reads_w in
        let moved = moved_reads m shapes (place_in element.0 source from) w there (laid_out m shapes well) known (empty_block n) 0 (omega (arith, size, size_empty L n)) in
        pushed m shapes element p made_up v reads bs here.item new block w (has ∙ size ∙ sym (size_there shapes element))
        (subst (λ k. Reads m shapes (start_of element.0 (moved_in (empty_block n) 0 source from k)) w) (sym size) moved) (is bs here.item)

    module _ {T E : Type 0} (o : Result T E) (new : Block L) where
      pub push_cleared : OnOk o ((bs : Seq L) → own_item p ≡ Some (Sequence bs) → new ≡ moved_out source from (element_size_of bs))
          → OnOk o (IsCleared source new (span from (size_at shapes (element_at shapes p.shape))))
      push_cleared moved = on_ok o (source_cleared new) moved

      pub push_made : IsWellFormed m shapes → p.shape < length shapes
          → OnOk o ((bs : Seq L) → own_item p ≡ Some (Sequence bs) → new ≡ with_item p.block p.offset (Some (Sequence (with_last (with_room 1 bs) (block_of_moved (element_size_of bs) source from)))))
          → OnOk o ((v : Value L) → Reads m shapes p v → (w : Value L) → Reads m shapes (place_in (element_at shapes p.shape) source from) w
          → Reads m shapes (place_in p.shape new p.offset) (node form.List (values_of (parts_of v ++ w ∷ []))))
      push_made well sealed made = on_ok o (push_reads well sealed new) made

  pub push_refused : {T E : Type 0} (o : Result T E) (new : Block L) → OnErr o ((bs : Seq L) → own_item p ≡ Some (Sequence bs) → new ≡ with_item p.block p.offset (Some (Sequence bs))) → OnErr o (new ≡ p.block)
  push_refused o new again = on_error o (put_again new) again

  -- what a pop requires, and what it leaves
  abbrev last_of : ℕ → Type 0
  last_of len = (bs : Seq L) → own_item p ≡ Some (Sequence bs) → len ≡ length (filled_of bs)

  pub pop_answer : {result : Bool} {len : ℕ} → last_of len → IsTrue result ↔ (0 < len) → (b : Bool) → result ≡ b → (v : Value L) → Reads m shapes p v → IsTrue b ↔ (0 < length (parts_of v))
  pop_answer {result} {len} counted is b same v reads =
      subst (λ k. IsTrue b ↔ (0 < k)) (inside_is len counted v reads) (subst (λ c. IsTrue c ↔ (0 < len)) same is)

  pub pop_sizes : (last : ℕ) (bs : Seq L) → own_item p ≡ Some (Sequence bs) → (b : Block L) → slice_get (filled_of bs) last ≡ Some b → size_of b ≡ element_size_of bs
  pop_sizes last bs item b there =
      let sound = sound_at m shapes element p made_up r.value r.reads bs item in
      (All_at (IsFilled shapes (element ∷ [])) (filled_of bs) last b sound.filled there).size ∙ sym sound.element_size

  pub pop_vacant : {out : Block L} {at : ℕ} → IsVacant out (span at (size_at shapes (element_at shapes p.shape))) → (bs : Seq L) → own_item p ≡ Some (Sequence bs) → IsVacant out (span at (element_size_of bs))
  pop_vacant {out} {at} vacant bs item = subst (λ k. IsVacant out (span at k)) (sym (bytes_are bs item)) vacant

  module _ {result : Bool} {len : ℕ} (counted : last_of len) (is : IsTrue result ↔ (0 < len)) (some : result ≡ true) where
    pub pop_last : (bs : Seq L) → own_item p ≡ Some (Sequence bs) → length (filled_of bs) ≡ (len - 1) + 1
    pop_last bs item = let above = is.0 some in omega (arith, counted bs item, above)

    abbrev last_there : (bs : Seq L) → own_item p ≡ Some (Sequence bs) → (b : Block L) × (slice_get (filled_of bs) (len - 1) ≡ Some b)
    last_there bs item = there_is (filled_of bs) (len - 1) (omega (arith, pop_last bs item))

    pub pop_is : (new : Block L)
        → ((bs : Seq L) → own_item p ≡ Some (Sequence bs) → (b : Block L) → slice_get (filled_of bs) (len - 1) ≡ Some b
        → new ≡ with_item p.block p.offset (Some (Sequence (cut_at (len - 1) (with_filled bs (slice_set (filled_of bs) (len - 1) (moved_out b 0 (element_size_of bs))))))))
        → (bs : Seq L) → own_item p ≡ Some (Sequence bs) → new ≡ with_item p.block p.offset (Some (Sequence (without_last bs)))
    pop_is new leaves bs item =
        let (b, there) = last_there bs item in
        let n = element_size_of bs in
        let size = pop_sizes (len - 1) bs item b there in
        let cleared = cleared_moved_out b 0 n (omega (arith, size)) in
        let blank = empty_is n (moved_out b 0 n) (cleared.size ∙ size) cleared.empty in
        leaves bs item b there ∙ ap (λ s. with_item p.block p.offset (Some (Sequence s))) (emptied_last bs (len - 1) (moved_out b 0 n) (pop_last bs item) blank)

    pub pop_reads : (new : Block L)
        → ((bs : Seq L) → own_item p ≡ Some (Sequence bs) → (b : Block L) → slice_get (filled_of bs) (len - 1) ≡ Some b
        → new ≡ with_item p.block p.offset (Some (Sequence (cut_at (len - 1) (with_filled bs (slice_set (filled_of bs) (len - 1) (moved_out b 0 (element_size_of bs))))))))
        → (v : Value L) → Reads m shapes p v → Reads m shapes (place_in p.shape new p.offset) (node form.List (values_of (take (length (parts_of v) - 1) (parts_of v))))
    pop_reads new leaves v reads = popped m shapes element p made_up v reads here.blocks here.item new (pop_is new leaves here.blocks here.item)

    module _ {out : Block L} {at : ℕ} (vacant : IsVacant out (span at (size_at shapes (element_at shapes p.shape)))) (now : Block L)
        (moved : (bs : Seq L) → own_item p ≡ Some (Sequence bs) → (b : Block L) → slice_get (filled_of bs) (len - 1) ≡ Some b → now ≡ moved_in out at b 0 (element_size_of bs)) where
      pub pop_changed : IsChanged out now (span at (size_at shapes (element_at shapes p.shape)))
      pop_changed =
          let (b, there) = last_there here.blocks here.item in
          let n = element_size_of here.blocks in
          let room = pop_vacant vacant here.blocks here.item in
          subst (λ k. IsChanged out now (span at k)) (bytes_are here.blocks here.item)
          (subst (λ c. IsChanged out c (span at n)) (sym (moved here.blocks here.item b there)) (changed_moved_in out at b 0 n room.inside (omega (arith, pop_sizes (len - 1) here.blocks here.item b there))))

      pub pop_element : IsWellFormed m shapes → p.shape < length shapes → (v : Value L) → Reads m shapes p v → (w : Value L) → slice_get (parts_of v) (length (parts_of v) - 1) ≡ Some w
          → Reads m shapes (place_in (element_at shapes p.shape) now at) w
      pop_element well sealed v reads w is_last =
          let bs = here.blocks in
          let (b, there) = last_there bs here.item in
          let shape_is = element_shape m shapes p form.List element made_up 0 in
          let known = element_known m shapes p form.List element made_up (laid_out m shapes well p.shape sealed) in
          let last : length (parts_of v) - 1 ≡ len - 1 = ap (λ k. k - 1) (sym (inside_is len counted v reads)) in
          let reads_b = each_get m shapes element (filled_of bs) (parts_of v) (len - 1) b w (each_there m shapes element p made_up v reads bs here.item) there (subst (λ k. slice_get (parts_of v) k ≡ Some w) last is_last) in
          let size = bytes_are bs here.item ∙ ap (size_at shapes) shape_is in
          let room = subst (λ k. at + k ≤ size_of out) (ap (size_at shapes) shape_is) vacant.inside in
          let arrived = moved_reads m shapes (start_of element.0 b) w reads_b (laid_out m shapes well) known out at room in
          subst (λ s. Reads m shapes (place_in s now at) w) (sym shape_is)
          (subst (λ c. Reads m shapes (place_in element.0 c at) w) (sym (moved bs here.item b there ∙ ap (moved_in out at b 0) size)) arrived)

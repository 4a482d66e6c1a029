-- What is made at a place, by the structure of the values of its shape.
use Rattle.std.proofs.Common.{◌≡◌, ◌≢◌, ℕ, ◌+◌, ◌-◌, ◌<◌, ◌≤◌, inl, inr, All, true, List, [], ◌∷◌, ◌++◌, append-nil, length, option_map, slice_get, Option, None, Some, Result, Ok, Err, refl, sym, ap, ◌∙◌, subst, arith}
use Rattle.std.proofs.lemmas.List.Elements.{All-head, All-map, All-nil}
use Rattle.std.proofs.lemmas.Option.{slice_get-map}
use Rattle.std.specs.declared.alloc.AllocError.{AllocError}
use Rattle.facet_base.proofs.Lists.{All_at}
use Rattle.facet_base.specs.declared.layout.ShapeId.{ShapeId}
use Rattle.facet_base.specs.declared.scalar_type.ScalarType.{ScalarType}
use Rattle.facet_block.proofs.Ranges.{item_elsewhere, item_there, size_with_item}
use Rattle.facet_block.specs.Block.{item_at, size_of, with_item}
use Rattle.facet_block.specs.DropLog.{LeafLog}
use Rattle.facet_block.specs.Seq.{make_seq, spare_of}
use Rattle.facet_block.specs.Span.{IsBeside, IsChanged, IsEmptyIn, IsVacant, Span, span}
use Rattle.facet_block.specs.declared.block.Block.{Block}
use Rattle.facet_block.specs.declared.block.Item.{Item, Leaf, Sequence, Tag}
use Rattle.facet_block.specs.declared.block.Seq.{Seq}
use Rattle.facet_leaf.specs.LeafModel.{LeafModel}
use Rattle.facet_make.proofs.PartsMade.{all_by_index}
use Rattle.facet_make.specs.Made.{IsAmong, Made, leaves_made, made, node_of, refused}
use Rattle.facet_make.specs.Walk.{AfterOne, AfterParts, AreMadeWithin, IsLeafPut, IsMadeWithin, IsStopped, Stops, ranges_from}
use Rattle.facet_outline.specs.declared.placed_fields.PlacedField.{PlacedField}
use Rattle.facet_registry.specs.Registry.{size_at}
use Rattle.facet_shape.specs.declared.shape.Shape.{Shape}
use Rattle.facet_trees.specs.Ascending.{IsInOrder, keys_of}
use Rattle.facet_trees.specs.Structure.{Structure, plain, scalar, sequence, tagged, block_body, block_size, structure_at}
use Rattle.facet_trees.specs.Value.{Value, Values, leaf, leaves, leaves_of_parts, node, none}
use Rattle.facet_trees.specs.declared.form.Form.{Form}
use Rattle.facet_trees.specs.declared.form.Form.TheVariants as form
use Rattle.facet_values.proofs.StructureRows.{filled_made, reads_from_leaf, reads_from_parts, reads_from_sequence, reads_from_tagged, size_made, spare_made}
use Rattle.facet_values.specs.Laid.{IsLaidOut, LieApart, bodies_of, has_own_item}
use Rattle.facet_values.specs.Place.{block_places, place_in}
use Rattle.facet_values.specs.Reading.{IsLengthOf, Reads, ReadAll, own_span}
use Rattle.facet_values.specs.Rows.{HoldsOnly, bytes_of}

-- nothing was done, and nothing is taken back
pub stopped_at_once : {A L : Type 0} {leaves_in : A → List L} {case : Made A L} {held : ℕ} {b : Block L} {log : LeafLog L} → case ≡ refused [] → held ≤ log.spare
    → IsStopped leaves_in case (Ok None) held b b log log
stopped_at_once {log = log} is room = record { back = record { taken = []; why = is; block = refl; log = sym (append-nil log.leaves); spare = omega arith }; room = room }

-- no memory was found before anything was made
pub stopped_by_memory : {A L : Type 0} {leaves_in : A → List L} {case : Made A L} {held : ℕ} {e : AllocError} {b c : Block L} {begin end : LeafLog L} → c ≡ b → end.leaves ≡ begin.leaves → begin.spare ≤ end.spare → held ≤ begin.spare
    → IsStopped leaves_in case (Err e) held b c begin end
stopped_by_memory {begin = begin} same log spare room = record {
  back = record { taken = []; why = record { counts = λ p. omega arith }; block = same; log = log ∙ sym (append-nil begin.leaves); spare = omega arith };
  room = omega arith;
}

-- a part that stops stops the whole, where the whole is a node of the parts
leaves_of_node : {L : Type 0} (form : Form) (case : Made (Values L) L) → leaves_made leaves_of_parts case ≡ leaves_made leaves (node_of form case)
leaves_of_node form (made vs) = refl
leaves_of_node form (refused taken) = refl

stops_node : {L : Type 0} (form : Form) (case : Made (Values L) L) (result : Result (Option ℕ) AllocError) (taken : List L) → Stops leaves_of_parts case result taken → Stops leaves (node_of form case) result taken
stops_node form case (Ok (Some n)) taken why = why
stops_node form case (Ok None) taken why = ap (node_of form) why
stops_node form case (Err e) taken why = subst (IsAmong taken) (leaves_of_node form case) why

pub stopped_node : {L : Type 0} (form : Form) (case : Made (Value L) L) (parts : Made (Values L) L) {held : ℕ} {b c : Block L} {begin end : LeafLog L} (result : Result (Option ℕ) AllocError) → case ≡ node_of form parts
    → IsStopped leaves_of_parts parts result held b c begin end → IsStopped leaves case result held b c begin end
stopped_node {L} form case parts result is stopped = record {
  back = record {
    taken = stopped.back.taken;
    why = subst (λ (x : Made (Value L) L). Stops leaves x result stopped.back.taken) (sym is) (stops_node form parts result stopped.back.taken stopped.back.why);
    block = stopped.back.block;
    log = stopped.back.log;
    spare = stopped.back.spare;
  };
  room = stopped.room;
}

beside_moved : (base x start len : ℕ) → IsBeside x (span start len) → IsBeside (base + x) (span (base + start) len)
beside_moved base x start len (inl before) = inl (omega arith)
beside_moved base x start len (inr behind) = inr (omega arith)

no_keys : {L : Type 0} (form : Form) → keys_of {L = L} form none ≡ []
no_keys form.Map = refl
no_keys form.Set = refl
no_keys _ = refl

module _ {L : Type 0} (m : LeafModel L) (shapes : List Shape) where
  empty_in_order : (form : Form) (ids : List ShapeId) → IsInOrder m shapes (sequence form ids) none
  empty_in_order form [] = tt
  empty_in_order form (key ∷ ids) = λ i j d before below. absurd (omega (arith, below, ap length (no_keys {L = L} form)))

-- a place that is vacant, of a shape that is laid out
module _ {L : Type 0} (m : LeafModel L) (shapes : List Shape) (s at : ℕ) (b : Block L) (laid : IsLaidOut shapes s) (vacant : IsVacant b (span at (size_at shapes s))) where
  module _ (st : Structure) (of : structure_at shapes s ≡ st) (has : has_own_item st ≡ true) where
    -- there is a byte for an item of the value's own
    pub own_byte : at < size_of b
    own_byte = omega (arith, laid.own (subst (λ t. has_own_item t ≡ true) (sym of) has), vacant.inside)

    -- where nothing lies
    pub own_empty : item_at b at ≡ None
    own_empty = vacant.empty at (omega arith, omega (arith, laid.own (subst (λ t. has_own_item t ≡ true) (sym of) has)))

    module _ (item : Item L) where
      abbrev put : Block L
      put = with_item b at (Some item)

      pub item_lies : item_at put at ≡ Some item
      item_lies = item_there b at (Some item) own_byte

      -- which is the one item in the range then
      pub item_alone : HoldsOnly m shapes (place_in s put at) (own_span ∷ [])
      item_alone = record {
        inside = omega (arith, size_with_item b at (Some item), vacant.inside);
        alone = λ i below beside. elim (All-head (IsBeside i) own_span [] beside) [
          | inl before ↦ absurd (omega arith)
          | inr behind ↦
              let other : at + i ≢ at = omega (arith, behind) in
              item_elsewhere b at (Some item) (at + i) other ∙ vacant.empty (at + i) (omega arith, omega arith)
        ];
      }

      pub item_changed : IsChanged b put (span at (size_at shapes s))
      item_changed =
          let own = laid.own (subst (λ t. has_own_item t ≡ true) (sym of) has) in
          record {
            size = size_with_item b at (Some item);
            outside = λ i beside. item_elsewhere b at (Some item) i (beside_own i own beside);
          }
        where
          beside_own : (i : ℕ) → 0 < size_at shapes s → IsBeside i (span at (size_at shapes s)) → i ≢ at
          beside_own i own (inl before) = omega arith
          beside_own i own (inr behind) = omega arith

  module _ {levels held : ℕ} {case : Made (Value L) L} {c : Block L} {begin : LeafLog L} (deep : 1 ≤ levels) where
    -- a value without leaves and without parts
    made_alone : (form : Form) → case ≡ made (node form none) → Reads m shapes (place_in s c at) (node form none) → IsChanged b c (span at (size_at shapes s)) → held ≤ begin.spare
        → IsMadeWithin m shapes levels case s at held held b c begin begin
    made_alone form is reads changed room = record {
      one = record { value = node form none; is = is; reads = reads; changed = changed; log = refl; spare = omega arith };
      shallow = omega arith;
      number = omega arith;
      room = room;
    }

    -- a leaf that was put
    pub leaf_made : {n : ℕ} {end : LeafLog L} (k : ScalarType) (Is : L → Type 0) → structure_at shapes s ≡ scalar k → ((x : L) → Is x → (m.kind x ≡ k) × (case ≡ made (leaf x))) → IsLeafPut Is at held n b c end
        → end.leaves ≡ begin.leaves → begin.spare ≤ end.spare → IsMadeWithin m shapes levels case s at held n b c begin end
    leaf_made k Is of by there log spare =
        let x = there.put in
        let known = by x there.is in
        let lies = item_lies (scalar k) of refl (Leaf x) in
        let reads = reads_from_leaf m shapes (place_in s (with_item b at (Some (Leaf x))) at) k of (leaf x)
        (record { leaf_there = x; kind = known.0; item = lies; holds = item_alone (scalar k) of refl (Leaf x); value = refl }) in
        record {
          one = record {
            value = leaf x;
            is = known.1;
            reads = subst (λ d. Reads m shapes (place_in s d at) (leaf x)) (sym there.block) reads;
            changed = subst (λ d. IsChanged b d (span at (size_at shapes s))) (sym there.block) (item_changed (scalar k) of refl (Leaf x));
            log = log;
            spare = spare;
          };
          shallow = omega arith;
          number = there.number;
          room = there.room;
        }

    -- a tag, behind which nothing lies
    pub tag_made : (forms : ℕ → Form) (bodies : List (List PlacedField)) (tag : ℕ) → structure_at shapes s ≡ tagged forms bodies → slice_get bodies tag ≡ Some [] → case ≡ made (node (forms tag) none)
        → c ≡ with_item b at (Some (Tag tag)) → held ≤ begin.spare → IsMadeWithin m shapes levels case s at held held b c begin begin
    tag_made forms bodies tag of there is same room =
        let p = place_in s (with_item b at (Some (Tag tag))) at in
        let reads = reads_from_tagged m shapes p forms bodies of (node (forms tag) none)
        (record {
          tag = tag;
          body = [];
          there = there;
          is = record { item = item_lies (tagged forms bodies) of refl (Tag tag); behind = record { parts = none; reads = tt; holds = item_alone (tagged forms bodies) of refl (Tag tag); value = refl } };
        }) in
        made_alone (forms tag) is (subst (λ d. Reads m shapes (place_in s d at) (node (forms tag) none)) (sym same) reads)
        (subst (λ d. IsChanged b d (span at (size_at shapes s))) (sym same) (item_changed (tagged forms bodies) of refl (Tag tag))) room

    -- a sequence without blocks
    pub sequence_made : (form : Form) (ids : List ShapeId) (n : ℕ) → structure_at shapes s ≡ sequence form ids → IsLengthOf form 0 → case ≡ made (node form none) → n ≡ block_size shapes ids
        → c ≡ with_item b at (Some (Sequence (make_seq n [] []))) → held ≤ begin.spare → IsMadeWithin m shapes levels case s at held held b c begin begin
    sequence_made form ids n of any is sized same room =
        let q : Seq L = make_seq n [] [] in
        let st = sequence form ids in
        let p = place_in s (with_item b at (Some (Sequence q))) at in
        let filled = filled_made {L = L} n [] [] in
        let spare = spare_made {L = L} n [] [] in
        let reads = reads_from_sequence m shapes p form ids of (node form none)
        (record {
          parts = none;
          is = record {
            blocks = q;
            item = item_lies st of refl (Sequence q);
            holds = item_alone st of refl (Sequence q);
            element_size = size_made n [] [] ∙ sized;
            sizes = subst (All (λ (d : Block L). size_of d ≡ block_size shapes ids)) (sym (ap (λ bs. bs ++ spare_of q) filled ∙ spare)) (All-nil (λ (d : Block L). size_of d ≡ block_size shapes ids));
            alone = subst (All (λ (d : Block L). (i : ℕ) → i < block_size shapes ids → All (IsBeside i) (bytes_of m shapes (block_body shapes ids)) → item_at d i ≡ None)) (sym filled)
                (All-nil (λ (d : Block L). (i : ℕ) → i < block_size shapes ids → All (IsBeside i) (bytes_of m shapes (block_body shapes ids)) → item_at d i ≡ None));
            spare = subst (All (λ (d : Block L). IsEmptyIn d (span 0 (block_size shapes ids)))) (sym spare) (All-nil (λ (d : Block L). IsEmptyIn d (span 0 (block_size shapes ids))));
            reads = subst (λ bs. ReadAll m shapes (block_places (block_body shapes ids) bs) none) (sym filled) tt;
            value = refl;
          };
          many = subst (λ (bs : List (Block L)). IsLengthOf form (length bs)) (sym filled) any;
          ordered = empty_in_order m shapes form ids;
        }) in
        made_alone form is (subst (λ d. Reads m shapes (place_in s d at) (node form none)) (sym same) reads)
        (subst (λ d. IsChanged b d (span at (size_at shapes s))) (sym same) (item_changed st of refl (Sequence q))) room

  -- inline parts that lie side by side
  module _ (own : Form) (body : List PlacedField) (of : structure_at shapes s ≡ plain own body) where
    pub plain_apart : LieApart shapes (size_at shapes s) body
    plain_apart = All-head (LieApart shapes (size_at shapes s)) body [] (subst (λ st. All (LieApart shapes (size_at shapes s)) (bodies_of st)) of laid.bodies)

    abbrev range : PlacedField → Span
    range part = span (at + part.offset) (size_at shapes part.shape.0)

    ends : (k : ℕ) (part : PlacedField) → slice_get body k ≡ Some part → part.offset + size_at shapes part.shape.0 ≤ size_at shapes s
    ends k part there = All_at (λ x. x.offset + size_at shapes x.shape.0 ≤ size_at shapes s) body k part plain_apart.inside there

    pub plain_vacant : All (IsVacant b) (ranges_from shapes at body)
    plain_vacant =
        All-map (IsVacant b) range body
        (all_by_index (λ part. IsVacant b (range part)) body
        (λ k part there.
        let last = ends k part there in
        record { inside = omega (arith, last, vacant.inside); empty = λ j within. vacant.empty j (omega (arith, within.0), omega (arith, within.1, last)) }))

    parts_beside : (j : ℕ) → IsBeside j (span at (size_at shapes s)) → All (IsBeside j) (ranges_from shapes at body)
    parts_beside j beside =
        All-map (IsBeside j) range body
        (all_by_index (λ part. IsBeside j (range part)) body
        (λ k part there. elim beside [ inl before ↦ inl (omega arith) | inr behind ↦ inr (omega (arith, behind, ends k part there)) ]))

    parts_moved : (i : ℕ) → All (IsBeside i) (bytes_of m shapes body) → All (IsBeside (at + i)) (ranges_from shapes at body)
    parts_moved i beside =
        let bytes : PlacedField → Span = λ part. span part.offset (size_at shapes part.shape.0) in
        All-map (IsBeside (at + i)) range body
        (all_by_index (λ part. IsBeside (at + i) (range part)) body
        (λ k part there.
        beside_moved at i part.offset (size_at shapes part.shape.0)
        (All_at (IsBeside i) (bytes_of m shapes body) k (bytes part) beside (slice_get-map bytes body k ∙ ap (option_map bytes) there))))

    module _ (levels held : ℕ) (case : Made (Value L) L) (parts : Made (Values L) L) (c : Block L) (begin end : LeafLog L) (deep : 1 ≤ levels) (is : case ≡ node_of own parts) where
      plain_made : {n : ℕ} → AreMadeWithin m shapes (levels - 1) parts body at held n b c begin end → IsMadeWithin m shapes levels case s at held n b c begin end
      plain_made all = record {
        one = record {
          value = node own all.values;
          is = is ∙ ap (node_of own) all.is;
          reads =
              reads_from_parts m shapes (place_in s c at) own body of (node own all.values)
              (record {
                parts = all.values;
                reads = all.reads;
                holds = record {
                  inside = omega (arith, all.changed.size, vacant.inside);
                  alone = λ i below beside. all.changed.outside (at + i) (parts_moved i beside) ∙ vacant.empty (at + i) (omega arith, omega arith);
                };
                value = refl;
              });
          changed = record { size = all.changed.size; outside = λ j beside. all.changed.outside j (parts_beside j beside) };
          log = all.log;
          spare = all.spare;
        };
        shallow = omega (arith, all.shallow);
        number = all.number;
        room = all.room;
      }

      pub plain_after : (result : Result (Option ℕ) AllocError) → AfterParts m shapes (levels - 1) parts body at held b c begin end result → AfterOne m shapes levels case s at held b c begin end result
      plain_after (Ok (Some n)) all = plain_made all
      plain_after (Ok None) stopped = stopped_node own case parts (Ok None) is stopped
      plain_after (Err e) stopped = stopped_node own case parts (Err e) is stopped

-- What a place reads as depends on the items of its range alone.
use Rattle.std.proofs.Common.{◌≡◌, ℕ, ◌+◌, ◌<◌, ◌≤◌, ◌⊎◌, inl, inr, true, List, [], ◌∷◌, length, All, Option, None, Some, slice_get, refl, sym, ap, ◌∙◌, subst, arith}
use Rattle.std.specs.Option.{option_map_or}
use Rattle.std.proofs.lemmas.List.Elements.{All-head, All-tail}
use Rattle.facet_base.proofs.Lists.{All_at}
use Rattle.facet_leaf.specs.LeafModel.{LeafModel}
use Rattle.facet_block.specs.declared.block.Item.{Item}
use Rattle.facet_block.specs.declared.block.Seq.{Seq}
use Rattle.facet_block.specs.Block.{item_at, leaf_of, sequence_of, size_of, tag_of}
use Rattle.facet_block.specs.Seq.{filled_of}
use Rattle.facet_block.specs.Span.{IsBeside}
use Rattle.facet_outline.specs.declared.placed_fields.PlacedField.{PlacedField}
use Rattle.facet_registry.specs.Registry.{size_at}
use Rattle.facet_shape.specs.declared.shape.Shape.{Shape}
use Rattle.facet_trees.specs.Structure.{Structure, no_values, plain, scalar, sequence, tagged, block_body, structure_at}
use Rattle.facet_trees.specs.Value.{Value, Values, leaf, node, none, more}
use Rattle.facet_trees.specs.declared.form.Form.{Form}
use Rattle.facet_values.specs.Laid.{IsLaidOut, LieApart, bodies_of, has_own_item}
use Rattle.facet_values.specs.Place.{Place, block_places, item_behind, own_item, part_place, part_places, place_in}
use Rattle.facet_values.specs.Reading.{HoldsSame, IsItemOf, IsWhole, ReadAll, Reads, spans_by}
use Rattle.facet_values.specs.Seen.{Seen, a_leaf, a_node, no_value, seen, seen_by}
use Rattle.facet_values.proofs.SeenParts.{parts_are_known}

module _ {L : Type 0} (shapes : List Shape) where
  -- a value of the structure is read alike where its own item is, if it has one
  seen_by_own_item : (t : Structure) (p : Place L) (found other : Option (Item L)) → (has_own_item t ≡ true → found ≡ other) → seen_by shapes t p found ≡ seen_by shapes t p other
  seen_by_own_item no_values p found other same = refl
  seen_by_own_item (scalar k) p found other same = ap (seen_by shapes (scalar k) p) (same refl)
  seen_by_own_item (plain form body) p found other same = refl
  seen_by_own_item (tagged forms bodies) p found other same = ap (seen_by shapes (tagged forms bodies) p) (same refl)
  seen_by_own_item (sequence form ids) p found other same = ap (seen_by shapes (sequence form ids) p) (same refl)

  spans_by_own_item : (t : Structure) (found other : Option (Item L)) → (has_own_item t ≡ true → found ≡ other) → spans_by shapes t found ≡ spans_by shapes t other
  spans_by_own_item no_values found other same = refl
  spans_by_own_item (scalar k) found other same = refl
  spans_by_own_item (plain form body) found other same = refl
  spans_by_own_item (tagged forms bodies) found other same = ap (spans_by shapes (tagged forms bodies)) (same refl)
  spans_by_own_item (sequence form ids) found other same = refl

  item_by_own_item : (m : LeafModel L) (t : Structure) (found other : Option (Item L)) → (has_own_item t ≡ true → found ≡ other) → IsItemOf m shapes t found → IsItemOf m shapes t other
  item_by_own_item m no_values found other same is = tt
  item_by_own_item m (scalar k) found other same is = subst (IsItemOf m shapes (scalar k)) (same refl) is
  item_by_own_item m (plain form body) found other same is = tt
  item_by_own_item m (tagged forms bodies) found other same is = tt
  item_by_own_item m (sequence form ids) found other same is = subst (IsItemOf m shapes (sequence form ids)) (same refl) is

  -- each of some places holds the same as the other at its turn
  abbrev AllHoldSame : List (Place L) → List (Place L) → Type 0
  AllHoldSame [] [] = Unit {0}
  AllHoldSame (p ∷ ps) (q ∷ qs) = HoldsSame shapes p q × AllHoldSame ps qs
  AllHoldSame _ _ = ⊥

  -- the same is seen, and the parts hold the same, or are the same places
  abbrev SeenSame : Seen L → Seen L → Type 0
  SeenSame no_value no_value = Unit {0}
  SeenSame (a_leaf x) (a_leaf y) = x ≡ y
  SeenSame (a_node form ps) (a_node other qs) = (form ≡ other) × ((ps ≡ qs) ⊎ AllHoldSame ps qs)
  SeenSame _ _ = ⊥

  -- so many bytes of both places hold the same, and lie in the second's block
  pub record HoldSameIn (size : ℕ) (p q : Place L) : Type 0 where
    pub items : (i : ℕ) → i < size → item_behind q i ≡ item_behind p i
    pub inside : q.offset + size ≤ size_of q.block

  part_same : (size : ℕ) (p q : Place L) (part : PlacedField) → HoldSameIn size p q → part.offset + size_at shapes part.shape.0 ≤ size → HoldsSame shapes (part_place p part) (part_place q part)
  part_same size p q part same ends = record {
    shape = refl;
    items = λ i below.
        let far : (o : ℕ) → o + part.offset + i ≡ o + (part.offset + i) = λ o. omega arith in
        ap (item_at q.block) (far q.offset) ∙ same.items (part.offset + i) (omega (arith, below, ends)) ∙ sym (ap (item_at p.block) (far p.offset));
    inside = omega (arith, same.inside, ends);
  }

  parts_same : (size : ℕ) (p q : Place L) (body : List PlacedField) → HoldSameIn size p q → All (λ part. part.offset + size_at shapes part.shape.0 ≤ size) body → AllHoldSame (part_places p body) (part_places q body)
  parts_same size p q [] same ends = tt
  parts_same size p q (part ∷ body) same ends =
      (part_same size p q part same (All-head (λ (f : PlacedField). f.offset + size_at shapes f.shape.0 ≤ size) part body ends), parts_same size p q body same (All-tail (λ (f : PlacedField). f.offset + size_at shapes f.shape.0 ≤ size) part body ends))

  leaf_same : (found : Option L) → SeenSame (option_map_or a_leaf found no_value) (option_map_or a_leaf found no_value)
  leaf_same None = tt
  leaf_same (Some x) = refl

  tagged_same : (size : ℕ) (p q : Place L) (forms : ℕ → Form) (bodies : List (List PlacedField)) (tag : Option ℕ) → HoldSameIn size p q → All (LieApart shapes size) bodies
      → SeenSame (option_map_or (λ t. option_map_or (λ body. a_node (forms t) (part_places p body)) (slice_get bodies t) no_value) tag no_value)
      (option_map_or (λ t. option_map_or (λ body. a_node (forms t) (part_places q body)) (slice_get bodies t) no_value) tag no_value)
  tagged_same size p q forms bodies None same apart = tt
  tagged_same size p q forms bodies (Some t) same apart = under (slice_get bodies t) refl
    where
      under : (found : Option (List PlacedField)) → slice_get bodies t ≡ found
          → SeenSame (option_map_or (λ body. a_node (forms t) (part_places p body)) found no_value) (option_map_or (λ body. a_node (forms t) (part_places q body)) found no_value)
      under None is = tt
      under (Some body) is = let lies = All_at (LieApart shapes size) bodies t body apart is in (refl, inr (parts_same size p q body same lies.inside))

  sequence_same : (form : Form) (body : List PlacedField) (found : Option (Seq L)) → SeenSame (option_map_or (λ s. a_node form (block_places body (filled_of s))) found no_value) (option_map_or (λ s. a_node form (block_places body (filled_of s))) found no_value)
  sequence_same form body None = tt
  sequence_same form body (Some s) = (refl, inl refl)

  seen_by_same : (t : Structure) (size : ℕ) (p q : Place L) (found : Option (Item L)) → HoldSameIn size p q → All (LieApart shapes size) (bodies_of t) → SeenSame (seen_by shapes t p found) (seen_by shapes t q found)
  seen_by_same no_values size p q found same apart = tt
  seen_by_same (scalar k) size p q found same apart = leaf_same (leaf_of found)
  seen_by_same (plain form body) size p q found same apart = (refl, inr (parts_same size p q body same (All-head (LieApart shapes size) body [] apart).inside))
  seen_by_same (tagged forms bodies) size p q found same apart = tagged_same size p q forms bodies (tag_of found) same apart
  seen_by_same (sequence form ids) size p q found same apart = sequence_same form (block_body shapes ids) (sequence_of found)

  leaf_seen : (x y : Seen L) (l : L) → SeenSame x y → x ≡ a_leaf l → y ≡ a_leaf l
  leaf_seen no_value y l same e = absurd (cc)
  leaf_seen (a_leaf x) no_value l same e = absurd same
  leaf_seen (a_leaf x) (a_leaf y) l same e = ap a_leaf (sym same) ∙ e
  leaf_seen (a_leaf x) (a_node form qs) l same e = absurd same
  leaf_seen (a_node form ps) y l same e = absurd (cc)

  node_seen : (x y : Seen L) (form : Form) (ps : List (Place L)) → SeenSame x y → x ≡ a_node form ps → (qs : List (Place L)) × (y ≡ a_node form qs) × ((ps ≡ qs) ⊎ AllHoldSame ps qs)
  node_seen no_value y form ps same e = absurd (cc)
  node_seen (a_leaf x) y form ps same e = absurd (cc)
  node_seen (a_node f those) no_value form ps same e = absurd same
  node_seen (a_node f those) (a_leaf y) form ps same e = absurd same
  node_seen (a_node f those) (a_node other qs) form ps same e =
      let same_form : f ≡ form = cc in
      let same_parts : those ≡ ps = cc in
      let there : other ≡ form = sym same.0 ∙ same_form in
      (qs, ap (λ g. a_node g qs) there, subst (λ all. (all ≡ qs) ⊎ AllHoldSame all qs) same_parts same.1)

  -- a place of the first one's shape, where the second is
  abbrev at : Place L → Place L → Place L
  at p q = place_in p.shape q.block q.offset

  module _ (p q : Place L) (laid : IsLaidOut shapes p.shape) (same : HoldsSame shapes p q) where
    inside_there : q.offset + size_at shapes p.shape ≤ size_of q.block
    inside_there = subst (λ s. q.offset + size_at shapes s ≤ size_of q.block) (sym same.shape) same.inside

    own_items : has_own_item (structure_at shapes p.shape) ≡ true → own_item p ≡ own_item q
    own_items has =
        let first : p.offset ≡ p.offset + 0 = omega arith in
        let second : q.offset + 0 ≡ q.offset = omega arith in
        ap (item_at p.block) first ∙ sym (same.items 0 (laid.own has)) ∙ ap (item_at q.block) second

    seen_same : SeenSame (seen shapes p) (seen shapes (at p q))
    unfolding seen
    seen_same =
        let t = structure_at shapes p.shape in
        subst (SeenSame (seen_by shapes t p (own_item p))) (seen_by_own_item t (at p q) (own_item p) (own_item q) own_items)
        (seen_by_same t (size_at shapes p.shape) p (at p q) (own_item p) (record { items = same.items; inside = inside_there }) laid.bodies)

    whole_same : (m : LeafModel L) → IsWhole m shapes p → IsWhole m shapes (at p q)
    whole_same m whole =
        let t = structure_at shapes p.shape in
        record {
          inside = inside_there;
          alone = λ i below beside. same.items i below ∙ whole.alone i below (subst (All (IsBeside i)) (sym (spans_by_own_item t (own_item p) (own_item q) own_items)) beside);
          item = item_by_own_item m t (own_item p) (own_item q) own_items whole.item;
        }

module _ {L : Type 0} (m : LeafModel L) (shapes : List Shape) (laid : (s : ℕ) → s < length shapes → IsLaidOut shapes s) where
  read_at_same : (p q : Place L) (v : Value L) → HoldsSame shapes p q → Reads m shapes (at shapes p q) v → Reads m shapes q v
  read_at_same p q v same reads = subst (λ s. Reads m shapes (place_in s q.block q.offset) v) same.shape reads

  mutual
    -- a place that holds the same reads as the same value
    pub reads_alike : (p q : Place L) (v : Value L) → p.shape < length shapes → HoldsSame shapes p q → Reads m shapes p v → Reads m shapes q v
    reads_alike p q (leaf x) known same reads =
        let there = laid p.shape known in
        read_at_same p q (leaf x) same (whole_same shapes p q there same m reads.0, leaf_seen shapes (seen shapes p) (seen shapes (at shapes p q)) x (seen_same shapes p q there same) reads.1)
    reads_alike p q (node form vs) known same reads =
        let there = laid p.shape known in
        let (qs, is, alike) = node_seen shapes (seen shapes p) (seen shapes (at shapes p q)) form reads.0 (seen_same shapes p q there same) reads.2 in
        read_at_same p q (node form vs) same (
          qs,
          whole_same shapes p q there same m reads.1,
          is,
          elim alike [
            | inl one ↦ subst (λ all. ReadAll m shapes all vs) one reads.3
            | inr others ↦ each_alike reads.0 qs vs (parts_are_known shapes p there form reads.0 reads.2) others reads.3
          ],
          reads.4,
        )

    each_alike : (ps qs : List (Place L)) (vs : Values L) → All (λ p. p.shape < length shapes) ps → AllHoldSame shapes ps qs → ReadAll m shapes ps vs → ReadAll m shapes qs vs
    each_alike [] [] vs known same reads = reads
    each_alike [] (q ∷ qs) vs known same reads = absurd same
    each_alike (p ∷ ps) [] vs known same reads = absurd same
    each_alike (p ∷ ps) (q ∷ qs) none known same reads = absurd reads
    each_alike (p ∷ ps) (q ∷ qs) (more v vs) known same reads =
        (reads_alike p q v (All-head (λ (r : Place L). r.shape < length shapes) p ps known) same.0 reads.0, each_alike ps qs vs (All-tail (λ (r : Place L). r.shape < length shapes) p ps known) same.1 reads.1)

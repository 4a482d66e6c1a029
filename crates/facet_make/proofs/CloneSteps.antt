-- The steps of a clone: what its calls require, and what they leave.
use Rattle.std.proofs.Common.{◌≡◌, ℕ, ◌+◌, ◌-◌, ◌<◌, ◌≤◌, All, true, false, List, [], map, take, unwrap_or, Option, None, Some, Result, refl, sym, ap, ◌∙◌, subst, arith}
use Rattle.std.proofs.lemmas.List.Elements.{All-take}
use Rattle.std.specs.declared.alloc.AllocError.{AllocError}
use Rattle.facet_base.specs.declared.characteristic.Characteristic.TheVariants as trait
use Rattle.facet_block.proofs.Ranges.{size_with_item}
use Rattle.facet_block.specs.Block.{item_at, item_kind, item_kind_at, size_of, with_item}
use Rattle.facet_block.specs.DropLog.{LeafLog}
use Rattle.facet_block.specs.Span.{IsApart, IsVacant, span}
use Rattle.facet_block.specs.declared.block.Block.{Block}
use Rattle.facet_block.specs.declared.block.Item.{Tag}
use Rattle.facet_block.specs.declared.block.ItemKind.TheVariants as item
use Rattle.facet_causes.specs.Causes.{IsWellFormed}
use Rattle.facet_leaf.specs.LeafLaws.{LeafLaws}
use Rattle.facet_leaf.specs.LeafModel.{LeafModel}
use Rattle.facet_make.proofs.ClonedNodes.{IsInline, IsPlaceOfPart, IsPlainHere, clone_of_leaf, clone_of_other, clone_of_parts}
use Rattle.facet_make.proofs.MadeByStructure.{leaf_made, own_byte, own_empty, plain_after, plain_vacant}
use Rattle.facet_make.proofs.OfferedLeaves.{leaves_can}
use Rattle.facet_make.proofs.TaggedMade.{inline_stays, tag_beside, tag_inline, tag_inside, tag_lies, tag_vacant, tagged_made, tagged_stopped}
use Rattle.facet_make.specs.Clone.{clone_case, is_cloned}
use Rattle.facet_make.specs.Cloning.{HasTag, part_clone}
use Rattle.facet_make.specs.Made.{Made, made, refused, in_order, node_of}
use Rattle.facet_make.specs.Walk.{AfterOne, AfterParts, AreChanged, AreMadeWithin, IsLeafPut, IsMadeWithin, IsStopped, ranges_from}
use Rattle.facet_outline.specs.declared.placed_fields.PlacedField.{PlacedField}
use Rattle.facet_registry.specs.Registry.{offers, size_at}
use Rattle.facet_shape.specs.declared.shape.Shape.{Shape}
use Rattle.facet_trees.specs.Structure.{scalar, tagged, structure_at}
use Rattle.facet_trees.specs.Value.{Value, Values, leaf, leaves, leaves_of_parts, node, none}
use Rattle.facet_trees.specs.declared.form.Form.{Form}
use Rattle.facet_trees.specs.declared.form.Form.TheVariants as form
use Rattle.facet_values.proofs.FittingValues.{reading_fits}
use Rattle.facet_values.specs.Laid.{IsLaidOut}
use Rattle.facet_values.specs.Place.{Place, own_item, place_in}
use Rattle.facet_values.specs.Reading.{IsReadableWithin, Reads, own_span, value_at}
use Rattle.facet_values.specs.Replaced.{body_at, body_by}
use Rattle.facet_values.specs.Seen.{a_leaf, a_node, seen}
use Rattle.facet_walk.proofs.ReadableParts.{levels_positive, value_of_seen}

-- a leaf that is seen at a place that reads as a value
module _ {L : Type 0} (m : LeafModel L) (shapes : List Shape) {levels : ℕ} {p : Place L} (readable : IsReadableWithin m shapes levels p) {x : L} (e : a_leaf x ≡ seen shapes p) where
  -- is of the kind of the shape's leaves
  pub leaf_of_shape : structure_at shapes p.shape ≡ scalar (m.kind x)
  leaf_of_shape = go readable.value readable.reads
    where
      go : (v : Value L) → Reads m shapes p v → structure_at shapes p.shape ≡ scalar (m.kind x)
      go (leaf y) reads = let f = e ∙ reads.1 in let same : x ≡ y = cc in reading_fits m shapes p (leaf y) reads ∙ ap (λ z. scalar (m.kind z)) (sym same)
      go (node form vs) reads = let f = e ∙ reads.2 in absurd (cc)

  pub leaf_can_clone : IsWellFormed m shapes → true ≡ offers shapes p.shape trait.Clone → m.can (m.kind x) trait.Clone ≡ true
  leaf_can_clone well offered = leaves_can m shapes well p.shape (m.kind x) leaf_of_shape trait.Clone (sym offered)

  -- and its clone is the value's
  pub leaf_cloned : IsWellFormed m shapes → LeafLaws m → true ≡ offers shapes p.shape trait.Clone → {at held n : ℕ} {b c : Block L} {begin end : LeafLog L} → IsLaidOut shapes p.shape
      → IsVacant b (span at (size_at shapes p.shape)) → IsLeafPut (λ copy. copy ≡ m.cloned x) at held n b c end → end.leaves ≡ begin.leaves → begin.spare ≤ end.spare
      → IsMadeWithin m shapes levels (clone_case m shapes p.shape (value_at shapes levels p)) p.shape at held n b c begin end
  leaf_cloned well laws offered {at} {held} {n} {b} {c} {begin} {end} laid vacant there log spare =
      let is = ap (clone_case m shapes p.shape) (value_of_seen readable e) ∙ clone_of_leaf m shapes p.shape x offered in
      leaf_made m shapes p.shape at b laid vacant (levels_positive readable) (m.kind x) (λ copy. copy ≡ m.cloned x) leaf_of_shape
      (λ y same. (ap m.kind same ∙ laws.cloned_kind x (leaf_can_clone well offered), is ∙ ap (λ z. made (leaf z)) (sym same))) there log spare

-- a node that is seen, and whose inline parts alone are cloned
module _ {L : Type 0} (m : LeafModel L) (shapes : List Shape) {p : Place L} {f : Form} (here : IsPlainHere shapes p f) where
  plain_body : body_at shapes p ≡ here.body
  plain_body = ap (λ st. body_by st (own_item p)) here.of

  pub plain_same : (b : Block L) (at : ℕ) → body_at shapes (place_in p.shape b at) ≡ body_at shapes p
  plain_same b at = ap (λ st. body_by st (item_at b at)) here.of ∙ sym plain_body

  pub plain_ranges : (at : ℕ) (b : Block L) → IsLaidOut shapes p.shape → IsVacant b (span at (size_at shapes p.shape)) → All (IsVacant b) (ranges_from shapes at (body_at shapes p))
  plain_ranges at b laid vacant = subst (λ body. All (IsVacant b) (ranges_from shapes at body)) (sym plain_body) (plain_vacant m shapes p.shape at b laid vacant f here.body here.of)

  pub plain_cloned : (levels at held : ℕ) {parts : List (Place L)} (b c : Block L) (begin end : LeafLog L) (result : Result (Option ℕ) AllocError) → IsReadableWithin m shapes levels p → a_node f parts ≡ seen shapes p
      → true ≡ offers shapes p.shape trait.Clone → is_cloned f ≡ true → IsInline shapes p f parts → IsLaidOut shapes p.shape → IsVacant b (span at (size_at shapes p.shape))
      → AfterParts m shapes (levels - 1) (in_order none (map (part_clone m shapes (levels - 1) p) (body_at shapes p))) (body_at shapes p) at held b c begin end result
      → AfterOne m shapes levels (clone_case m shapes p.shape (value_at shapes levels p)) p.shape at held b c begin end result
  plain_cloned levels at held {parts} b c begin end result readable e offered cloned inline laid vacant after =
      let all = in_order none (map (part_clone m shapes (levels - 1) p) (body_at shapes p)) in
      let is = ap (clone_case m shapes p.shape) (value_of_seen readable e) ∙ clone_of_parts m shapes p (levels - 1) f parts offered cloned inline in
      plain_after m shapes p.shape at b laid vacant f here.body here.of levels held (clone_case m shapes p.shape (value_at shapes levels p)) all c begin end (levels_positive readable) is result
      (subst (λ body. AfterParts m shapes (levels - 1) all body at held b c begin end result) plain_body after)

-- a node that is seen, and whose tag and parts are cloned
pub variant_case : {L : Type 0} (m : LeafModel L) (shapes : List Shape) {p : Place L} {levels : ℕ} (f : Form) (k : ℕ) {parts : List (Place L)} → f ≡ form.Variant k → IsReadableWithin m shapes levels p
    → a_node f parts ≡ seen shapes p → true ≡ offers shapes p.shape trait.Clone → is_cloned f ≡ true → IsInline shapes p f parts
    → node_of (form.Variant k) (in_order none (map (part_clone m shapes (levels - 1) p) (body_at shapes p))) ≡ clone_case m shapes p.shape (value_at shapes levels p)
variant_case m shapes {p} {levels} f k {parts} same readable e offered cloned inline =
    ap (λ x. node_of x (in_order none (map (part_clone m shapes (levels - 1) p) (body_at shapes p)))) (sym same)
    ∙ sym (ap (clone_case m shapes p.shape) (value_of_seen readable e) ∙ clone_of_parts m shapes p (levels - 1) f parts offered cloned inline)

-- a node that isn't cloned
pub other_case : {L : Type 0} (m : LeafModel L) (shapes : List Shape) {p : Place L} {levels : ℕ} (f : Form) {parts : List (Place L)} → IsReadableWithin m shapes levels p → a_node f parts ≡ seen shapes p
    → true ≡ offers shapes p.shape trait.Clone → is_cloned f ≡ false → clone_case m shapes p.shape (value_at shapes levels p) ≡ refused []
other_case m shapes {p} {levels} f readable e offered not_cloned = ap (clone_case m shapes p.shape) (value_of_seen readable e) ∙ clone_of_other m shapes p.shape f _ offered not_cloned

-- a place with a tag, of a shape that is laid out, and a vacant place for the clone
module _ {L : Type 0} (m : LeafModel L) (shapes : List Shape) {p : Place L} {tag : ℕ} (has : HasTag shapes p tag) {at : ℕ} {b : Block L} (laid : IsLaidOut shapes p.shape) (vacant : IsVacant b (span at (size_at shapes p.shape))) where
  tag_body : body_at shapes p ≡ has.body
  tag_body = ap (λ st. body_by st (own_item p)) has.of ∙ ap (body_by (tagged has.forms has.bodies)) has.item ∙ ap (λ o. unwrap_or o []) has.there

  pub variant_byte : at < size_of b
  variant_byte = own_byte m shapes p.shape at b laid vacant (tagged has.forms has.bodies) has.of refl

  pub variant_empty : item_at b at ≡ None
  variant_empty = own_empty m shapes p.shape at b laid vacant (tagged has.forms has.bodies) has.of refl

  abbrev with_it : Block L
  with_it = with_item b at (Some (Tag tag))

  pub variant_inside : at + size_at shapes p.shape ≤ size_of with_it
  variant_inside = tag_inside m shapes p.shape at b laid vacant has.forms has.bodies has.of tag has.body has.there

  pub variant_inline : body_at shapes (place_in p.shape with_it at) ≡ body_at shapes p
  variant_inline = tag_inline m shapes p.shape at b laid vacant has.forms has.bodies has.of tag has.body has.there ∙ sym tag_body

  pub variant_vacant : All (IsVacant with_it) (ranges_from shapes at (body_at shapes p))
  variant_vacant =
      subst (λ body. All (IsVacant with_it) (ranges_from shapes at body)) (sym tag_body)
      (tag_vacant m shapes p.shape at b laid vacant has.forms has.bodies has.of tag has.body has.there)

  form_case : (parts : Made (Values L) L) → node_of (form.Variant tag) parts ≡ node_of (has.forms tag) parts
  form_case parts = ap (λ f. node_of f parts) (sym has.form_is)

  module _ {levels held : ℕ} {parts : Made (Values L) L} {c d : Block L} {begin end : LeafLog L} (deep : 1 ≤ levels) (put : d ≡ with_it) where
    pub variant_made : {n : ℕ} → AreMadeWithin m shapes (levels - 1) parts (body_at shapes p) at held n d c begin end → IsMadeWithin m shapes levels (node_of (form.Variant tag) parts) p.shape at held n b c begin end
    variant_made {n} all =
        tagged_made m shapes p.shape at b laid vacant has.forms has.bodies has.of tag has.body has.there deep (form_case parts)
        (subst (λ x. AreMadeWithin m shapes (levels - 1) parts has.body at held n x c begin end) put (subst (λ body. AreMadeWithin m shapes (levels - 1) parts body at held n d c begin end) tag_body all))

    -- the tag lies there still where the parts stop
    pub variant_kind : {result : Result (Option ℕ) AllocError} → IsStopped leaves_of_parts parts result held d c begin end → item_kind_at c at ≡ item.Tag
    variant_kind stopped =
        ap (λ x. item_kind_at x at) (stopped.back.block ∙ put) ∙ ap item_kind (tag_lies m shapes p.shape at b laid vacant has.forms has.bodies has.of tag has.body has.there)

    pub variant_below : {result : Result (Option ℕ) AllocError} → IsStopped leaves_of_parts parts result held d c begin end → at < size_of c
    variant_below stopped = subst (λ x. at < size_of x) (sym (stopped.back.block ∙ put)) (omega (arith, variant_byte, size_with_item b at (Some (Tag tag))))

    pub variant_stopped : (result : Result (Option ℕ) AllocError) {o : Block L} → IsStopped leaves_of_parts parts result held d c begin end → o ≡ with_item c at None
        → IsStopped leaves (node_of (form.Variant tag) parts) result held b o begin end
    variant_stopped result stopped same =
        tagged_stopped m shapes p.shape at b laid vacant has.forms has.bodies has.of tag has.body has.there deep (form_case parts) result
        (subst (λ x. IsStopped leaves_of_parts parts result held x c begin end) put stopped) same

-- a part of the value at a place, and where its clone is made
module _ {L : Type 0} (m : LeafModel L) (shapes : List Shape) {p q : Place L} {body : List PlacedField} {i : ℕ} (here : IsPlaceOfPart p body i q) (at offset : ℕ) (same : offset ≡ at + (q.offset - p.offset)) where
  part_offset : offset ≡ at + here.part.offset
  part_offset = let e = ap (λ (x : Place L). x.offset) here.is in omega arith

  pub part_vacant : {b : Block L} → IsVacant b (span (at + here.part.offset) (size_at shapes here.part.shape.0)) → IsVacant b (span offset (size_at shapes q.shape))
  part_vacant {b} vacant =
      subst (λ (x : Place L). IsVacant b (span offset (size_at shapes x.shape))) here.is (subst (λ k. IsVacant b (span k (size_at shapes here.part.shape.0))) (sym part_offset) vacant)

  pub part_after : (levels n : ℕ) (b c : Block L) (begin end : LeafLog L) (result : Result (Option ℕ) AllocError)
      → AfterOne m shapes levels (clone_case m shapes q.shape (value_at shapes levels q)) q.shape offset n b c begin end result
      → AfterOne m shapes levels (part_clone m shapes levels p here.part) here.part.shape.0 (at + here.part.offset) n b c begin end result
  part_after levels n b c begin end result after =
      subst (λ k. AfterOne m shapes levels (part_clone m shapes levels p here.part) here.part.shape.0 k n b c begin end result) part_offset
      (subst (λ (x : Place L). AfterOne m shapes levels (clone_case m shapes x.shape (value_at shapes levels x)) x.shape offset n b c begin end result) (sym here.is) after)

-- the place of a part lies behind that of the value
pub part_behind : {L : Type 0} {p q : Place L} {body : List PlacedField} {i : ℕ} → IsPlaceOfPart p body i q → p.offset ≤ q.offset
part_behind {L} {p} {q} here = let e = ap (λ (x : Place L). x.offset) here.is in omega arith

pub part_inside : {L : Type 0} {p q : Place L} {body : List PlacedField} {i : ℕ} (at size : ℕ) (b : Block L) (here : IsPlaceOfPart p body i q) → IsVacant b (span (at + here.part.offset) size) → at + (q.offset - p.offset) ≤ size_of b
part_inside {L} {p} {q} at size b here vacant = let e = ap (λ (x : Place L). x.offset) here.is in omega (arith, vacant.inside)

-- the parts that lie at a place while the first of them are made
pub inline_while_made : {L : Type 0} (shapes : List Shape) (s : ℕ) (laid : IsLaidOut shapes s) (start now : Block L) (at i : ℕ) (body : List PlacedField) → body_at shapes (place_in s start at) ≡ body
    → AreChanged start now (ranges_from shapes at (take i body)) → body_at shapes (place_in s now at) ≡ body
inline_while_made shapes s laid start now at i body is changed =
    inline_stays shapes s laid start now at body (take i body) is
    (λ beside. tag_beside shapes at (take i body) (All-take (λ part. IsApart own_span (span part.offset (size_at shapes part.shape.0))) i body beside)) changed

-- and those where a part stopped, which left the block as it was
pub inline_at_stop : {L : Type 0} (shapes : List Shape) (s : ℕ) (laid : IsLaidOut shapes s) (start now : Block L) (at i : ℕ) (body : List PlacedField) {b : Block L} → body_at shapes (place_in s start at) ≡ body
    → AreChanged start now (ranges_from shapes at (take i body)) → b ≡ now → body_at shapes (place_in s b at) ≡ body
inline_at_stop shapes s laid start now at i body is changed same =
    ap (λ x. body_at shapes (place_in s x at)) same ∙ inline_while_made shapes s laid start now at i body is changed

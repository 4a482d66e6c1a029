-- The layouts of the blocks of a sequence, and what they say of the item at a place.
use Rattle.std.proofs.Common.{◌≡◌, ◌↔◌, inl, inr, IsTrue, ℕ, ◌+◌, ◌<◌, ◌≤◌, Bool, List, [], ◌∷◌, All, Option, None, Some, refl, sym, ap, ◌∙◌, subst, arith}
use Rattle.std.proofs.lemmas.List.Elements.{All-cons, All-head, All-nil, All-tail, All-weaker}
use Rattle.facet_base.specs.declared.layout.Layout.{Layout}
use Rattle.facet_base.specs.declared.layout.ShapeId.{ShapeId}
use Rattle.facet_block.specs.Block.{empty_block, item_at}
use Rattle.facet_block.specs.Seq.{filled_of, spare_of}
use Rattle.facet_block.specs.Span.{IsBeside, span}
use Rattle.facet_block.specs.declared.block.Block.{Block}
use Rattle.facet_block.specs.declared.block.Item.{Item, Leaf, Sequence, Tag}
use Rattle.facet_block.specs.declared.block.Seq.{Seq}
use Rattle.facet_causes.specs.Arrangement.{part_at}
use Rattle.facet_causes.specs.PartPlaces.{HoldsBoth}
use Rattle.facet_leaf.specs.LeafModel.{LeafModel}
use Rattle.facet_outline.specs.Layout.{pair_layout, value_offset}
use Rattle.facet_readable.specs.Blocks.{HasBlocks, IsFilledBy, IsLayoutOf, MayHaveBlocks}
use Rattle.facet_readable.specs.declared.blocks.BlockLayout.{BlockLayout}
use Rattle.facet_registry.specs.Registry.{size_at}
use Rattle.facet_shape.specs.declared.shape.Shape.{Shape}
use Rattle.facet_trees.specs.Structure.{sequence, block_body, block_size}
use Rattle.facet_trees.specs.declared.form.Form.{Form}
use Rattle.facet_values.proofs.LaidOut.{size_there}
use Rattle.facet_values.specs.Reading.{IsFilled, IsItemOf, IsSequenceOf, part_spans}

module _ {L : Type 0} (m : LeafModel L) (shapes : List Shape) (form : Form) (ids : List ShapeId) (layout : BlockLayout) (of : IsLayoutOf shapes ids layout) where
  filled_to : (b : Block L) → IsFilledBy layout b → IsFilled shapes ids b
  filled_to b is = record {
    size = is.size ∙ of.size;
    alone = λ i below beside.
        let here : i ≡ 0 + i = omega arith in
        let under : i < layout.size = omega (arith, below, of.size) in
        subst (λ k. item_at b k ≡ None) here (elim ((of.beside i under).0 beside) [ inl within ↦ is.gap i within | inr within ↦ is.tail i within ]);
  }

  filled_from : (b : Block L) → IsFilled shapes ids b → IsFilledBy layout b
  filled_from b is =
      let nothing : (i : ℕ) → i < layout.size → All (IsBeside i) (part_spans shapes (block_body shapes ids)) → item_at b i ≡ None = λ i under beside.
      let here : 0 + i ≡ i = omega arith in
      subst (λ k. item_at b k ≡ None) here (is.alone i (omega (arith, under, of.size)) beside) in
      record {
        size = is.size ∙ sym of.size;
        gap = λ i within.
            let under : i < layout.size = omega (arith, within.1, of.gap_inside) in
            nothing i under ((of.beside i under).1 (inl within));
        tail = λ i within.
            let under : i < layout.size = omega (arith, within.1, of.tail_inside) in
            nothing i under ((of.beside i under).1 (inr within));
      }

  sequence_to : (s : Seq L) → HasBlocks layout form s → IsSequenceOf shapes form ids s
  sequence_to s is = record {
    element_size = is.element_size ∙ of.size;
    filled = All-weaker (IsFilledBy layout) (IsFilled shapes ids) filled_to (filled_of s) is.filled;
    spare = All-weaker (λ b. b ≡ empty_block layout.size) (λ b. b ≡ empty_block (block_size shapes ids)) (λ b empty. empty ∙ ap empty_block of.size) (spare_of s) is.spare;
    count = is.count;
  }

  sequence_from : (s : Seq L) → IsSequenceOf shapes form ids s → HasBlocks layout form s
  sequence_from s is = record {
    element_size = is.element_size ∙ sym of.size;
    count = is.count;
    filled = All-weaker (IsFilled shapes ids) (IsFilledBy layout) filled_from (filled_of s) is.filled;
    spare = All-weaker (λ b. b ≡ empty_block (block_size shapes ids)) (λ b. b ≡ empty_block layout.size) (λ b empty. empty ∙ ap empty_block (sym of.size)) (spare_of s) is.spare;
  }

  -- what the code asks of the blocks is what a value asks of its item
  pub item_by_blocks : (found : Option (Item L)) (r : Bool) → (IsTrue r ↔ MayHaveBlocks layout form found) → IsTrue r ↔ IsItemOf m shapes (sequence form ids) found
  item_by_blocks None r has = (λ t. tt, λ u. has.1 tt)
  item_by_blocks (Some (Leaf x)) r has = (λ t. tt, λ u. has.1 tt)
  item_by_blocks (Some (Tag n)) r has = (λ t. tt, λ u. has.1 tt)
  item_by_blocks (Some (Sequence s)) r has = (λ t. sequence_to s (has.0 t), λ is. has.1 (sequence_from s is))

-- the sizes and the offset of a key and its value
pub record IsPairLayout (key value : Layout) (layout : BlockLayout) : Type 0 where
  pub size : layout.size ≡ (pair_layout key value).size
  pub gap : layout.gap ≡ key.size
  pub gap_end : layout.gap + layout.gap_len ≡ value_offset key value
  pub tail : layout.tail ≡ value_offset key value + value.size
  pub tail_end : layout.tail + layout.tail_len ≡ layout.size

module _ (shapes : List Shape) where
  -- one part fills its block
  one_fills : (id : ShapeId) (i : ℕ) → i < size_at shapes id.0 → All (IsBeside i) (span 0 (size_at shapes id.0) ∷ []) → ⊥
  one_fills id i below all = elim (All-head (IsBeside i) (span 0 (size_at shapes id.0)) [] all) [
    | inl before ↦ omega (arith, before)
    | inr behind ↦ omega (arith, behind, below)
  ]

  pub layout_of_one : (id : ShapeId) (size : ℕ) → size ≡ size_at shapes id.0 → (layout : BlockLayout) → layout ≡ record { size = size; gap = size; gap_len = 0; tail = size; tail_len = 0 }
      → IsLayoutOf shapes (id ∷ []) layout
  layout_of_one id size is layout same = subst (IsLayoutOf shapes (id ∷ [])) (sym same) (record {
    size = is ∙ sym (size_there shapes id);
    gap_inside = omega arith;
    tail_inside = omega arith;
    beside = λ i below. (
      λ all. absurd (one_fills id i (omega (arith, below, is)) all),
      λ within. elim within [ inl gap ↦ absurd (omega (arith, gap.1, below)) | inr tail ↦ absurd (omega (arith, tail.1, below)) ],
    );
  })

  pub layout_of_none : (layout : BlockLayout) → layout ≡ record { size = 0; gap = 0; gap_len = 0; tail = 0; tail_len = 0 } → IsLayoutOf shapes [] layout
  layout_of_none layout same = subst (IsLayoutOf shapes []) (sym same) (record {
    size = refl;
    gap_inside = omega arith;
    tail_inside = omega arith;
    beside = λ i below. absurd (omega (arith, below));
  })

  pub layout_of_two : (key value : ShapeId) (layout : BlockLayout) → HoldsBoth (part_at shapes key) (part_at shapes value) → IsPairLayout (part_at shapes key) (part_at shapes value) layout
      → IsLayoutOf shapes (key ∷ value ∷ []) layout
  layout_of_two key value layout holds of =
      let first = span 0 (size_at shapes key.0) in
      let offset = value_offset (part_at shapes key) (part_at shapes value) in
      let second = span offset (size_at shapes value.0) in
      let key_size = size_there shapes key in
      let value_size = size_there shapes value in
      let behind_key : (i : ℕ) → IsBeside i first → size_at shapes key.0 ≤ i = λ i beside. elim beside [ inl before ↦ absurd (omega (arith, before)) | inr behind ↦ omega (arith, behind) ] in
      record {
        size = of.size;
        gap_inside = omega (arith, of.gap_end, of.size, holds.value_inside);
        tail_inside = omega (arith, of.tail_end);
        beside = λ i below. (
          λ all.
              let from = behind_key i (All-head (IsBeside i) first (second ∷ []) all) in
              elim (All-head (IsBeside i) second [] (All-tail (IsBeside i) first (second ∷ []) all)) [
                | inl before ↦ inl (omega (arith, from, of.gap, key_size), omega (arith, before, of.gap_end))
                | inr behind ↦ inr (omega (arith, behind, of.tail, value_size), omega (arith, below, of.tail_end))
              ],
          λ within. elim within [
            | inl gap ↦ All-cons (IsBeside i) first (second ∷ []) (inr (omega (arith, gap.0, of.gap, key_size))) (All-cons (IsBeside i) second [] (inl (omega (arith, gap.1, of.gap_end))) (All-nil (IsBeside i)))
            | inr tail ↦
                All-cons (IsBeside i) first (second ∷ []) (inr (omega (arith, tail.0, of.tail, key_size, holds.key_before)))
                (All-cons (IsBeside i) second [] (inr (omega (arith, tail.0, of.tail, value_size))) (All-nil (IsBeside i)))
          ],
        );
      }

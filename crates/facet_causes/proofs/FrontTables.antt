-- Tables of shapes are right where further shapes stand behind these, and tables that were lengthened can be cut back.
use Rattle.std.proofs.Common.{◌≡◌, ℕ, ◌<◌, ◌≤◌, Bool, false, List, length, take, slice_get, refl, sym, ap, ◌∙◌, subst, inl, inr, arith, length-take}
use Rattle.std.proofs.lemmas.Bool.{cases_lt, false≢true}
use Rattle.std.proofs.lemmas.List.{get_or-take, get_or_past}
use Rattle.facet_causes.specs.Causes.{Meets}
use Rattle.facet_causes.specs.Reading.{before_at, inline_at, lacks_order, named_at, own_name_bytes_of, parts_at, repeated_at}
use Rattle.facet_causes.specs.Tables.{AreTables, AreTablesOfFirst, BeginWith}
use Rattle.facet_causes.specs.TooLarge.{IsTooLarge, each_counts}
use Rattle.facet_causes.specs.declared.cause.SealCause.TheVariants as cause
use Rattle.facet_causes.specs.declared.tables.Tables.{Tables}
use Rattle.facet_causes.proofs.Entries.{of_each}
use Rattle.facet_causes.proofs.Front.{AreKnown, before_same, before_stays, inline_same, inline_stays, lacks_order_same, named_same, own_name_same, parts_same, parts_stay, repeated_same}
use Rattle.facet_causes.proofs.NameLengths.{named_stays}
use Rattle.facet_causes.proofs.Sealed.{unweighted_inline}
use Rattle.facet_graph.specs.Cost.{AreCosts}
use Rattle.facet_graph.specs.Height.{AreHeights, AreLow}
use Rattle.facet_graph.specs.Marks.{AreClean}
use Rattle.facet_graph.specs.Reach.{StaysWithin}
use Rattle.facet_graph.proofs.Carried.{all_low, costs_carried, heights_carried, marks_carried, stays_same}
use Rattle.facet_leaf.specs.LeafModel.{LeafModel}
use Rattle.facet_shape.specs.declared.shape.Shape.{Shape}

-- marks that are cut back are right
clean_take : (edges : ℕ → List ℕ) (bad : ℕ → Bool) (n : ℕ) (marks : List Bool) → AreClean edges bad marks → AreClean edges bad (take n marks)
clean_take edges bad n marks clean s marked = elim (cases_lt s n) [
  | inl below ↦ clean s (sym (get_or-take n marks s false below) ∙ marked)
  | inr past ↦ absurd (false≢true (sym (get_or_past (take n marks) s false (omega (arith, past, length-take n marks))) ∙ marked))
]

module _ (xs ys : List Shape) (longer : length xs ≤ length ys) (same : (s : ℕ) → s < length xs → slice_get ys s ≡ slice_get xs s) (known : AreKnown xs) where
  -- in the longer list
  pub tables_front : (tables : Tables) → AreTables xs tables → AreTablesOfFirst ys (length xs) tables
  tables_front tables are = record {
    inline_heights_len = are.inline_heights_len;
    inline_heights = heights_carried (inline_at xs) (inline_at ys) (length xs) (inline_stays xs ys longer same known) (inline_same xs ys longer same known) tables.inline_heights.items are.inline_heights;
    heights_len = are.heights_len;
    heights = heights_carried (before_at xs) (before_at ys) (length xs) (before_stays xs ys longer same known) (before_same xs ys longer same known) tables.heights.items are.heights;
    part_counts_len = are.part_counts_len;
    part_counts = costs_carried (repeated_at xs) (repeated_at ys) each_counts each_counts (length xs) (subst (λ edges. StaysWithin edges (length xs)) (sym (unweighted_inline xs)) (inline_stays xs ys longer same known)) (repeated_same xs ys longer same known) (λ s below. refl) tables.part_counts.items are.part_counts;
    name_lengths_len = are.name_lengths_len;
    name_lengths = costs_carried (named_at xs) (named_at ys) (own_name_bytes_of xs) (own_name_bytes_of ys) (length xs) (named_stays xs (length xs) (before_stays xs ys longer same known)) (named_same xs ys longer same known) (own_name_same xs ys longer same known) tables.name_lengths.items are.name_lengths;
    ordered_len = are.ordered_len;
    ordered = marks_carried (parts_at xs) (parts_at ys) (length xs) (parts_stay xs ys longer same known) (parts_same xs ys longer same known) (lacks_order xs) (lacks_order ys) (lacks_order_same xs ys longer same known) tables.ordered.items (omega (arith, are.ordered_len, tables.ordered.ok.0)) are.ordered;
  }

  -- and cut back
  module _ (old new cut : Tables) (are : AreTables xs old) (begin : BeginWith ys old new) where
    cut_is : {A : Type 0} (of cut new : List A) (n : ℕ) → n ≡ length xs → take n new ≡ of → cut ≡ take (length xs) new → cut ≡ of
    cut_is of cut new n len begins is = is ∙ ap (λ k. take k new) (sym len) ∙ begins

    module _ (inline_heights : cut.inline_heights.items ≡ take (length xs) new.inline_heights.items)
        (heights : cut.heights.items ≡ take (length xs) new.heights.items)
        (part_counts : cut.part_counts.items ≡ take (length xs) new.part_counts.items)
        (name_lengths : cut.name_lengths.items ≡ take (length xs) new.name_lengths.items)
        (ordered : cut.ordered.items ≡ take (length xs) new.ordered.items) where
      inline_heights_is : cut.inline_heights.items ≡ old.inline_heights.items
      inline_heights_is = cut_is old.inline_heights.items cut.inline_heights.items new.inline_heights.items old.inline_heights.len are.inline_heights_len begin.inline_heights inline_heights

      heights_is : cut.heights.items ≡ old.heights.items
      heights_is = cut_is old.heights.items cut.heights.items new.heights.items old.heights.len are.heights_len begin.heights heights

      part_counts_is : cut.part_counts.items ≡ old.part_counts.items
      part_counts_is = cut_is old.part_counts.items cut.part_counts.items new.part_counts.items old.part_counts.len are.part_counts_len begin.part_counts part_counts

      name_lengths_is : cut.name_lengths.items ≡ old.name_lengths.items
      name_lengths_is = cut_is old.name_lengths.items cut.name_lengths.items new.name_lengths.items old.name_lengths.len are.name_lengths_len begin.name_lengths name_lengths

      ordered_length : length cut.ordered.items ≡ length xs
      ordered_length = ap length ordered ∙ omega (arith, length-take (length xs) new.ordered.items, new.ordered.ok.0, begin.ordered_len, are.ordered_len)

      pub tables_back : AreTables xs cut
      tables_back = record {
        inline_heights_len = omega (arith, ap length inline_heights_is, cut.inline_heights.ok.0, old.inline_heights.ok.0, are.inline_heights_len);
        inline_heights = subst (AreLow (inline_at xs) (length xs)) (sym inline_heights_is) are.inline_heights;
        heights_len = omega (arith, ap length heights_is, cut.heights.ok.0, old.heights.ok.0, are.heights_len);
        heights = subst (AreLow (before_at xs) (length xs)) (sym heights_is) are.heights;
        part_counts_len = omega (arith, ap length part_counts_is, cut.part_counts.ok.0, old.part_counts.ok.0, are.part_counts_len);
        part_counts = subst (AreCosts (repeated_at xs) each_counts (length xs)) (sym part_counts_is) are.part_counts;
        name_lengths_len = omega (arith, ap length name_lengths_is, cut.name_lengths.ok.0, old.name_lengths.ok.0, are.name_lengths_len);
        name_lengths = subst (AreCosts (named_at xs) (own_name_bytes_of xs) (length xs)) (sym name_lengths_is) are.name_lengths;
        ordered_len = omega (arith, ordered_length, cut.ordered.ok.0);
        ordered = marks_carried (parts_at ys) (parts_at xs) (length xs) (stays_same (parts_at xs) (parts_at ys) (length xs) (parts_stay xs ys longer same known) (parts_same xs ys longer same known)) (λ s below. sym (parts_same xs ys longer same known s below)) (lacks_order ys) (lacks_order xs) (λ s below. sym (lacks_order_same xs ys longer same known s below))
            cut.ordered.items ordered_length (subst (AreClean (parts_at ys) (lacks_order ys)) (sym ordered) (clean_take (parts_at ys) (lacks_order ys) (length xs) new.ordered.items begin.ordered));
      }

-- where no shape is too large, no height is too great
module _ {L : Type 0} (m : LeafModel L) (xs : List Shape) (none : (s : ℕ) → s < length xs → ¬ Meets m xs cause.TooLarge s) where
  pub inline_low : (heights : List ℕ) → AreHeights (inline_at xs) (length xs) heights → AreLow (inline_at xs) (length xs) heights
  inline_low heights right = all_low (inline_at xs) (length xs) heights right (λ s below high. none s below (of_each (IsTooLarge xs s) (λ shape. inr (inr (inr (inl high)))) xs s below))

  pub before_low : (heights : List ℕ) → AreHeights (before_at xs) (length xs) heights → AreLow (before_at xs) (length xs) heights
  before_low heights right = all_low (before_at xs) (length xs) heights right (λ s below high. none s below (of_each (IsTooLarge xs s) (λ shape. inr (inr (inr (inr high)))) xs s below))

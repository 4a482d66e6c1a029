-- A sequence without blocks reads as an empty list.
use Rattle.std.proofs.Common.{◌≡◌, ℕ, ◌+◌, ◌<◌, List, [], ◌++◌, All, None, Some, refl, sym, ap, ◌∙◌, subst, arith}
use Rattle.std.proofs.lemmas.List.Elements.{All-head, All-nil}
use Rattle.facet_base.specs.declared.layout.ShapeId.{ShapeId}
use Rattle.facet_block.proofs.Ranges.{item_elsewhere, item_there, size_with_item}
use Rattle.facet_block.specs.Block.{item_at, size_of, with_item}
use Rattle.facet_block.specs.Seq.{filled_of, make_seq, spare_of}
use Rattle.facet_block.specs.Span.{IsBeside, IsEmptyIn, IsVacant, span}
use Rattle.facet_block.specs.declared.block.Block.{Block}
use Rattle.facet_block.specs.declared.block.Item.{Sequence}
use Rattle.facet_block.specs.declared.block.Seq.{Seq}
use Rattle.facet_causes.specs.Arrangement.{part_at, single}
use Rattle.facet_leaf.specs.LeafModel.{LeafModel}
use Rattle.facet_registry.specs.Registry.{size_at}
use Rattle.facet_shape.specs.declared.shape.Shape.{Shape}
use Rattle.facet_trees.specs.Value.{node, none}
use Rattle.facet_trees.specs.declared.form.Form.TheVariants as form
use Rattle.facet_value_callers.proofs.Leaves.{not_first}
use Rattle.facet_value_callers.specs.ShapesOf.{IsListOf}
use Rattle.facet_values.proofs.KindRows.{list_row, list_structure}
use Rattle.facet_values.proofs.StructureRows.{filled_made, size_made, spare_made}
use Rattle.facet_values.specs.Laid.{IsLaidOut, has_own_item}
use Rattle.facet_values.specs.Place.{block_places, place_in}
use Rattle.facet_values.specs.Reading.{ReadAll, Reads}
use Rattle.facet_values.specs.Rows.{bytes_of}

-- where a list of blocks is empty, what is asked of each holds
of_none : {X : Type 0} (P : X → Type 0) (xs : List X) → xs ≡ [] → All P xs
of_none P xs empty = subst (All P) (sym empty) (All-nil P)

module _ {L : Type 0} (m : LeafModel L) (shapes : List Shape) (s : ℕ) (element : ShapeId) (of : IsListOf shapes s element) where
  pub sequence_inside : IsLaidOut shapes s → 0 < size_at shapes s
  sequence_inside laid = laid.own (ap has_own_item (list_structure shapes s of.shape of.found of.list of.is_list of.definition))

  module _ (old : Block L) (at size : ℕ) (vacant : IsVacant old (span at (size_at shapes s))) (some : 0 < size_at shapes s) (same : size ≡ (part_at shapes element).size) where
    abbrev blocks : Seq L
    blocks = make_seq size [] []

    abbrev new : Block L
    new = with_item old at (Some (Sequence blocks))

    pub empty_list_reads : Reads m shapes (place_in s new at) (node form.List none)
    empty_list_reads =
        let body = single of.list.t 0 in
        let element_size = (part_at shapes of.list.t).size in
        let filled : filled_of blocks ≡ [] = filled_made size [] [] in
        let spare : spare_of blocks ≡ [] = spare_made size [] [] in
        (list_row m shapes (place_in s new at) (node form.List none) of.shape of.found of.list of.is_list of.definition).1
        (record {
          parts = none;
          holds = tt;
          is = record {
            blocks = blocks;
            item = item_there old at (Some (Sequence blocks)) (omega (arith, some, vacant.inside));
            holds = record {
              inside = omega (arith, vacant.inside, size_with_item old at (Some (Sequence blocks)));
              alone = λ i below beside.
                  let other = not_first i 0 1 (omega arith) (All-head (IsBeside i) (span 0 1) [] beside) in
                  item_elsewhere old at (Some (Sequence blocks)) (at + i) (omega (arith, other)) ∙ vacant.empty (at + i) (omega arith, omega (arith, below));
            };
            element_size = size_made size [] [] ∙ (same ∙ ap (λ t. (part_at shapes t).size) (sym of.element_is));
            sizes = of_none (λ b. size_of b ≡ element_size) (filled_of blocks ++ spare_of blocks) (ap (λ bs. bs ++ spare_of blocks) filled ∙ spare);
            alone = of_none (λ b. (i : ℕ) → i < element_size → All (IsBeside i) (bytes_of m shapes body) → item_at b i ≡ None) (filled_of blocks) filled;
            spare = of_none (λ b. IsEmptyIn b (span 0 element_size)) (spare_of blocks) spare;
            reads = subst (λ bs. ReadAll m shapes (block_places body bs) none) (sym filled) tt;
            value = refl;
          };
        })

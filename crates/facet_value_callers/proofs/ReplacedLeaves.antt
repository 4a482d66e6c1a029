-- A field of a struct that is a leaf is replaced by another leaf of its kind.
use Rattle.std.proofs.Common.{◌≡◌, ℕ, All, ◌+◌, ◌<◌, inl, inr, List, [], length, Some, option_map, slice_get, sym, ap, ◌∙◌, subst, arith}
use Rattle.std.proofs.lemmas.List.Elements.{All-head}
use Rattle.std.proofs.lemmas.Option.{slice_get-map}
use Rattle.facet_base.proofs.Lists.{All_at}
use Rattle.facet_base.specs.declared.layout.ShapeId.{ShapeId}
use Rattle.facet_block.proofs.Ranges.{item_elsewhere, item_there, size_with_item}
use Rattle.facet_block.specs.Block.{with_item}
use Rattle.facet_block.specs.Span.{IsBeside, IsChanged, span}
use Rattle.facet_block.specs.declared.block.Block.{Block}
use Rattle.facet_block.specs.declared.block.Item.{Leaf}
use Rattle.facet_leaf.specs.LeafModel.{LeafModel}
use Rattle.facet_outline.specs.Field.{placed}
use Rattle.facet_outline.specs.declared.placed_fields.PlacedField.{PlacedField}
use Rattle.facet_outline.specs.declared.value_kind.ValueKind.TheVariants as kind
use Rattle.facet_registry.specs.Registry.{kind_at, size_at}
use Rattle.facet_shape.specs.declared.shape.Shape.{Shape}
use Rattle.facet_trees.specs.Structure.{plain, structure_at}
use Rattle.facet_trees.specs.Value.{Value, Values, leaf, node, none, more}
use Rattle.facet_trees.specs.declared.form.Form.{Form}
use Rattle.facet_trees.specs.declared.form.Form.TheVariants as form
use Rattle.facet_value_callers.proofs.Leaves.{leaf_reads, not_first}
use Rattle.facet_value_callers.proofs.LeafOptions.{leaf_some}
use Rattle.facet_value_callers.specs.ShapesOf.{HasField}
use Rattle.facet_values.proofs.KindRows.{struct_structure}
use Rattle.facet_values.proofs.KindStructures.{structure_of_leaf}
use Rattle.facet_values.proofs.ReplacedParts.{part_read, part_replaced}
use Rattle.facet_values.proofs.StructureRows.{leaf_from_reads, parts_from_reads}
use Rattle.facet_values.specs.Laid.{IsLaidOut, LieApart, bodies_of}
use Rattle.facet_values.specs.Place.{Place, own_item, part_place, part_places, place_in}
use Rattle.facet_values.specs.Reading.{Reads}
use Rattle.facet_values.specs.Replaced.{body_by, with_parts}
use Rattle.facet_values.specs.Rows.{IsLeafAt}

beside_less : (i start len : ℕ) → 0 < len → IsBeside i (span start len) → IsBeside i (span start 1)
beside_less i start len some (inl before) = inl before
beside_less i start len some (inr behind) = inr (omega arith)

module _ {L : Type 0} (m : LeafModel L) (shapes : List Shape) (p : Place L) (index : ℕ) (part : ShapeId) (offset : ℕ) (of : HasField shapes p.shape index part offset)
    (x : L) (kind_is : kind_at shapes part.0 ≡ kind.Leaf (m.kind x)) where
  field : PlacedField
  field = record { shape = part; offset = offset }

  structure : structure_at shapes p.shape ≡ plain form.Record (placed of.type)
  structure = struct_structure shapes p.shape of.shape of.found of.type of.is_struct of.definition

  -- the field is a leaf of that kind
  pub leaf_in_field : (v : Value L) → Reads m shapes p v → (w : Value L) × IsLeafAt m shapes (m.kind x) (place_in part.0 p.block (p.offset + offset)) w
  leaf_in_field v reads =
      let parts = parts_from_reads m shapes p form.Record (placed of.type) structure v reads in
      let place = place_in part.0 p.block (p.offset + offset) in
      let there : slice_get (part_places p (placed of.type)) index ≡ Some place = slice_get-map (part_place p) (placed of.type) index ∙ ap (option_map (part_place p)) of.field in
      let found = part_read m shapes (part_places p (placed of.type)) parts.parts index place parts.reads there in
      (found.0, leaf_from_reads m shapes place (m.kind x) (structure_of_leaf shapes part.0 (m.kind x) kind_is) found.0 found.1)

  -- the field is of a shape that is there
  pub field_known : IsLaidOut shapes p.shape → part.0 < length shapes
  unfolding field
  field_known laid =
      let bodies = subst (λ st. All (LieApart shapes (size_at shapes p.shape)) (bodies_of st)) structure laid.bodies in
      let lie = All-head (LieApart shapes (size_at shapes p.shape)) (placed of.type) [] bodies in
      All_at (λ x. x.shape.0 < length shapes) (placed of.type) index field lie.known of.field

  module _ (all_laid : (s : ℕ) → s < length shapes → IsLaidOut shapes s) (sealed : p.shape < length shapes) (part_sealed : part.0 < length shapes) where
    some : 0 < size_at shapes part.0
    some = leaf_some m shapes all_laid part.0 x part_sealed kind_is

    abbrev new : Block L
    new = with_item p.block (p.offset + offset) (Some (Leaf x))

    changed : IsChanged p.block new (span (p.offset + offset) (size_at shapes part.0))
    changed = record {
      size = size_with_item p.block (p.offset + offset) (Some (Leaf x));
      outside = λ i beside. item_elsewhere p.block (p.offset + offset) (Some (Leaf x)) i (not_first i (p.offset + offset) (size_at shapes part.0) some beside);
    }

    leaf_now : (w : Value L) → IsLeafAt m shapes (m.kind x) (place_in part.0 p.block (p.offset + offset)) w → Reads m shapes (place_in part.0 new (p.offset + offset)) (leaf x)
    leaf_now w old =
        leaf_reads m shapes (place_in part.0 new (p.offset + offset)) x kind_is
        (item_there p.block (p.offset + offset) (Some (Leaf x)) (omega (arith, some, old.holds.inside)))
        (record {
          inside = omega (arith, old.holds.inside, size_with_item p.block (p.offset + offset) (Some (Leaf x)));
          alone = λ i below beside.
              let other = not_first i 0 1 (omega arith) (All-head (IsBeside i) (span 0 1) [] beside) in
              item_elsewhere p.block (p.offset + offset) (Some (Leaf x)) (p.offset + offset + i) (omega (arith, other)) ∙ old.holds.alone i below beside;
        })

    pub leaf_replaced : (other : Form) (vs : Values L) → Reads m shapes p (node other vs) → Reads m shapes (place_in p.shape new p.offset) (node other (with_parts index (more (leaf x) none) vs))
    unfolding field
    leaf_replaced other vs reads =
        let old = leaf_in_field (node other vs) reads in
        part_replaced m shapes all_laid p new field changed index (leaf x) (leaf_now old.0 old.1) (all_laid p.shape sealed) other vs
        (subst (λ st. slice_get (body_by st (own_item p)) index ≡ Some field) (sym structure) of.field) reads

-- Which causes a shape meets depends on the items of its lists alone.
use Rattle.std.proofs.Common.{◌≡◌, ℕ, ◌≤◌, ◌&&◌, ◌||◌, not, nat_lt, List, Any, IsTrue, length, refl, ap, ◌∙◌}
use Rattle.std.specs.List.{list_any}
use Rattle.std.specs.Option.{option_to_list}
use Rattle.facet_causes.specs.Causes.{ShapeMeets}
use Rattle.facet_causes.specs.Reading.{element_of, indices, kind_in, lacks_order, layout_at, parts_at}
use Rattle.facet_causes.specs.declared.cause.SealCause.{SealCause}
use Rattle.facet_causes.specs.declared.cause.SealCause.TheVariants as cause
use Rattle.facet_graph.specs.Reach.{ReachesBad}
use Rattle.facet_graph.specs.Repeats.{HasRepeat, HaveOverlap}
use Rattle.facet_leaf.specs.LeafModel.{LeafModel}
use Rattle.facet_desc.specs.WithoutSpare.{ty_without_spare}
use Rattle.facet_desc.specs.declared.ty.Ty.{Ty}
use Rattle.facet_outline.specs.BadLayout.{is_leaf_without_bytes}
use Rattle.facet_outline.specs.Discriminant.{AreOutsideRepr, HasDiscriminantOutside, discriminants_of_kind}
use Rattle.facet_outline.specs.Field.{bodies, ends_behind, has_field_misaligned, has_field_outside, is_misaligned, spans_of, tag_bytes}
use Rattle.facet_outline.specs.Layout.{part_layout}
use Rattle.facet_outline.specs.Part.{key_of_kind}
use Rattle.facet_outline.specs.declared.value_kind.ValueKind.{ValueKind}
use Rattle.facet_outline.proofs.SameCauses.{has_bad_layout_same, has_unsized_part_same, is_mismatched_same, has_unoffered_member_same}
use Rattle.facet_outline.proofs.SameItems.{bodies_same, discriminants_of_kind_same, eager_references_same, is_packed_struct_same, kind_same, placed_fields_same, references_same, repr_of_kind_same, tag_bytes_same}
use Rattle.facet_shape.specs.WithoutSpare.{shape_without_spare}
use Rattle.facet_shape.specs.declared.shape.Shape.{Shape}

-- a reading by kind and type, of a shape whose kind is the same
module _ {ℓ} {A : Type ℓ} (f : ValueKind → Ty → A) (same : (k : ValueKind) (t : Ty) → f k (ty_without_spare t) ≡ f k t) (xs : List Shape) (s : Shape) where
  by_kind : f (kind_in xs (shape_without_spare s)) (ty_without_spare s.ty) ≡ f (kind_in xs s) s.ty
  by_kind = ap (λ k. f k (ty_without_spare s.ty)) (kind_same (element_of xs s.def) s) ∙ same (kind_in xs s) s.ty

module _ {L : Type 0} (m : LeafModel L) (xs : List Shape) where
  pub meets_same : (c : SealCause) (s : ℕ) (shape : Shape) → ShapeMeets m xs c s (shape_without_spare shape) ≡ ShapeMeets m xs c s shape
  meets_same cause.UnknownShape s shape = ap (Any (λ id. length xs ≤ id.0)) (references_same shape)
  meets_same cause.EagerForward s shape = ap (Any (λ id. s ≤ id.0)) (eager_references_same shape)
  meets_same cause.Mismatch s shape = ap IsTrue (is_mismatched_same (layout_at xs) shape)
  meets_same cause.UnsizedPart s shape = ap IsTrue (has_unsized_part_same (layout_at xs) (element_of xs shape.def) shape)
  meets_same cause.InlineCycle s shape = refl
  meets_same cause.TooLarge s shape = refl
  meets_same cause.BadLayout s shape = ap IsTrue (has_bad_layout_same (layout_at xs) (element_of xs shape.def) shape)
  meets_same cause.FieldOutside s shape = ap IsTrue (by_kind (λ k t. has_field_outside (layout_at xs) k t (part_layout shape.layout).size) outside_same xs shape)
    where
      outside_same : (k : ValueKind) (t : Ty) → has_field_outside (layout_at xs) k (ty_without_spare t) (part_layout shape.layout).size ≡ has_field_outside (layout_at xs) k t (part_layout shape.layout).size
      outside_same k t = λ i. list_any (ends_behind (layout_at xs) (part_layout shape.layout).size) (placed_fields_same k t i) || nat_lt (part_layout shape.layout).size (tag_bytes_same k t i)
  meets_same cause.FieldMisaligned s shape = ap IsTrue (by_kind (has_field_misaligned (layout_at xs)) misaligned_same xs shape)
    where
      misaligned_same : (k : ValueKind) (t : Ty) → has_field_misaligned (layout_at xs) k (ty_without_spare t) ≡ has_field_misaligned (layout_at xs) k t
      misaligned_same k t = λ i. not (is_packed_struct_same k t i) && list_any (is_misaligned (layout_at xs)) (placed_fields_same k t i)
  meets_same cause.FieldOverlap s shape = by_kind (λ k t. Any (λ body. HaveOverlap (spans_of (layout_at xs) (tag_bytes k t) body)) (bodies k t)) overlap_same xs shape
    where
      overlap_same : (k : ValueKind) (t : Ty) → Any (λ body. HaveOverlap (spans_of (layout_at xs) (tag_bytes k (ty_without_spare t)) body)) (bodies k (ty_without_spare t)) ≡ Any (λ body. HaveOverlap (spans_of (layout_at xs) (tag_bytes k t) body)) (bodies k t)
      overlap_same k t = λ i. Any (λ body. HaveOverlap (spans_of (layout_at xs) (tag_bytes_same k t i) body)) (bodies_same k t i)
  meets_same cause.ZeroSizedScalar s shape = ap (λ k. IsTrue (is_leaf_without_bytes k shape.layout)) (kind_same (element_of xs shape.def) shape)
  meets_same cause.DiscriminantRepeated s shape = ap HasRepeat (by_kind discriminants_of_kind discriminants_of_kind_same xs shape)
  meets_same cause.DiscriminantRange s shape = by_kind HasDiscriminantOutside range_same xs shape
    where
      range_same : (k : ValueKind) (t : Ty) → HasDiscriminantOutside k (ty_without_spare t) ≡ HasDiscriminantOutside k t
      range_same k t = λ i. AreOutsideRepr (repr_of_kind_same k t i) (discriminants_of_kind_same k t i)
  meets_same cause.KeyNotOrd s shape = ap (λ k. Any (ReachesBad (parts_at xs) (lacks_order xs)) (indices (option_to_list (key_of_kind k shape.def)))) (kind_same (element_of xs shape.def) shape)
  meets_same cause.CapabilityMissing s shape = ap IsTrue (has_unoffered_member_same m (element_of xs shape.def) shape)

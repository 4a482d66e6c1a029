-- Whether a shape meets a cause.
use Rattle.std.proofs.Common.{◌≡◌, ℕ, suc, ◌≤◌, List, [], Option, None, Some, length, slice_get, ap, inr}
use Rattle.std.specs.Option.{option_map_or}
use Rattle.std.proofs.lemmas.Option.{slice_get_past}
use Rattle.facet_causes.specs.Causes.{HasOverlap, Meets, ShapeMeets}
use Rattle.facet_causes.specs.KeyNotOrd.{HasKeyWithoutOrder, keys_of}
use Rattle.facet_causes.specs.LongName.{HasLongName}
use Rattle.facet_causes.specs.Reading.{OfShape, before_at, element_of, indices, inline_at, inline_of, kind_in, lacks_order, layout_at, parts_at, parts_of, repeated_at}
use Rattle.facet_causes.specs.TooLarge.{IsTooLarge, each_counts}
use Rattle.facet_causes.specs.declared.cause.SealCause.{SealCause}
use Rattle.facet_causes.specs.declared.cause.SealCause.TheVariants as cause
use Rattle.facet_graph.specs.Reach.{ReachesBad}
use Rattle.facet_graph.specs.Repeats.{HaveOverlap}
use Rattle.facet_leaf.specs.LeafModel.{LeafModel}
use Rattle.facet_outline.specs.BadLayout.{has_bad_layout, has_unsized_part, is_leaf_without_bytes, is_too_large}
use Rattle.facet_outline.specs.Discriminant.{discriminants_of_kind}
use Rattle.facet_outline.specs.Field.{bodies, has_field_misaligned, has_field_outside, spans_of, tag_bytes}
use Rattle.facet_outline.specs.Layout.{part_layout}
use Rattle.facet_outline.specs.Mismatch.{is_mismatched}
use Rattle.facet_type_name.specs.Name.{full_name}
use Rattle.facet_outline.specs.Offered.{has_unoffered_member}
use Rattle.facet_outline.specs.Part.{inline_parts, parts}
use Rattle.facet_outline.specs.References.{eager_references, references}
use Rattle.facet_shape.specs.declared.shape.Shape.{Shape}
use Rattle.facet_verdict.proofs.Counts.{has_repeat, have_overlap}
use Rattle.facet_verdict.proofs.Decisions.{Decided, either, is_below, is_true, is_up_to, some_of}
use Rattle.facet_verdict.proofs.Discriminants.{has_discriminant_outside}
use Rattle.facet_verdict.proofs.Heights.{is_too_costly, is_too_high}
use Rattle.facet_verdict.proofs.Ways.{reaches_bad, reaches_itself}

module _ (shapes : List Shape) where
  -- where there is no shape there is no part
  no_shape : (s : ℕ) → length shapes ≤ s → slice_get shapes s ≡ None
  no_shape s beyond = slice_get_past shapes s beyond

  no_inline : (s : ℕ) → length shapes ≤ s → inline_at shapes s ≡ []
  unfolding inline_of
  no_inline s beyond = ap (λ found. indices (option_map_or (λ (shape : Shape). inline_parts (element_of shapes shape.def) shape) found [])) (no_shape s beyond)

  no_parts : (s : ℕ) → length shapes ≤ s → parts_at shapes s ≡ []
  unfolding parts_of
  no_parts s beyond = ap (λ found. indices (option_map_or (λ (shape : Shape). parts (element_of shapes shape.def) shape) found [])) (no_shape s beyond)

  has_overlap : (shape : Shape) → Decided (HasOverlap shapes shape)
  has_overlap shape = some_of
      (λ body. HaveOverlap (spans_of (layout_at shapes) (tag_bytes (kind_in shapes shape) shape.ty) body))
      (λ body. have_overlap (spans_of (layout_at shapes) (tag_bytes (kind_in shapes shape) shape.ty) body))
      (bodies (kind_in shapes shape) shape.ty)

  has_key_without_order : (shape : Shape) → Decided (HasKeyWithoutOrder shapes shape)
  has_key_without_order shape = some_of
      (ReachesBad (parts_at shapes) (lacks_order shapes))
      (reaches_bad (parts_at shapes) (length shapes) no_parts (lacks_order shapes))
      (indices (keys_of shapes shape))

  has_long_name : (s : ℕ) → Decided (HasLongName shapes s)
  has_long_name s = is_below 65536 (length (full_name shapes (suc s) (record { 0 = s })))

  is_large : (s : ℕ) (shape : Shape) → Decided (IsTooLarge shapes s shape)
  is_large s shape =
      either (is_true (is_too_large shape.layout))
      (either (is_too_costly (repeated_at shapes) each_counts s)
      (either (has_long_name s)
      (either (is_too_high (inline_at shapes) s) (is_too_high (before_at shapes) s))))

module _ {L : Type 0} (m : LeafModel L) (shapes : List Shape) where
  shape_meets : (c : SealCause) (s : ℕ) (shape : Shape) → Decided (ShapeMeets m shapes c s shape)
  shape_meets cause.UnknownShape s shape = some_of (λ id. length shapes ≤ id.0) (λ id. is_up_to (length shapes) id.0) (references shape)
  shape_meets cause.EagerForward s shape = some_of (λ id. s ≤ id.0) (λ id. is_up_to s id.0) (eager_references shape)
  shape_meets cause.Mismatch s shape = is_true (is_mismatched (layout_at shapes) shape)
  shape_meets cause.UnsizedPart s shape = is_true (has_unsized_part (layout_at shapes) (element_of shapes shape.def) shape)
  shape_meets cause.InlineCycle s shape = reaches_itself (inline_at shapes) (length shapes) (no_inline shapes) s
  shape_meets cause.TooLarge s shape = is_large shapes s shape
  shape_meets cause.BadLayout s shape = is_true (has_bad_layout (layout_at shapes) (element_of shapes shape.def) shape)
  shape_meets cause.FieldOutside s shape = is_true (has_field_outside (layout_at shapes) (kind_in shapes shape) shape.ty (part_layout shape.layout).size)
  shape_meets cause.FieldMisaligned s shape = is_true (has_field_misaligned (layout_at shapes) (kind_in shapes shape) shape.ty)
  shape_meets cause.FieldOverlap s shape = has_overlap shapes shape
  shape_meets cause.ZeroSizedScalar s shape = is_true (is_leaf_without_bytes (kind_in shapes shape) shape.layout)
  shape_meets cause.DiscriminantRepeated s shape = has_repeat (discriminants_of_kind (kind_in shapes shape) shape.ty)
  shape_meets cause.DiscriminantRange s shape = has_discriminant_outside (kind_in shapes shape) shape.ty
  shape_meets cause.KeyNotOrd s shape = has_key_without_order shapes shape
  shape_meets cause.CapabilityMissing s shape = is_true (has_unoffered_member m (element_of shapes shape.def) shape)

  pub meets : (c : SealCause) (s : ℕ) → Decided (Meets m shapes c s)
  meets c s = go (slice_get shapes s)
    where
      go : (found : Option Shape) → Decided (OfShape (ShapeMeets m shapes c s) found)
      go None = inr (λ met. met)
      go (Some shape) = shape_meets c s shape

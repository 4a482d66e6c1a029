-- The fifteen causes for which shapes aren't sealed. Each is a statement on one shape among the others of its list.
use Rattle.std.specs.Prelude.{ℕ, ◌<◌, ◌≤◌, Any, IsTrue, List, length, slice_get}
use Rattle.facet_causes.specs.KeyNotOrd.{HasKeyWithoutOrder}
use Rattle.facet_causes.specs.Reading.{OfShape, element_of, inline_at, kind_in, layout_at}
use Rattle.facet_causes.specs.TooLarge.{IsTooLarge}
use Rattle.facet_causes.specs.declared.cause.SealCause.{SealCause}
use Rattle.facet_causes.specs.declared.cause.SealCause.TheVariants as cause
use Rattle.facet_graph.specs.Reach.{ReachesItself}
use Rattle.facet_graph.specs.Repeats.{HasRepeat, HaveOverlap}
use Rattle.facet_leaf.specs.LeafModel.{LeafModel}
use Rattle.facet_outline.specs.BadLayout.{has_bad_layout, has_unsized_part, is_leaf_without_bytes}
use Rattle.facet_outline.specs.Discriminant.{HasDiscriminantOutside, discriminants_of_kind}
use Rattle.facet_outline.specs.Field.{bodies, has_field_misaligned, has_field_outside, spans_of, tag_bytes}
use Rattle.facet_outline.specs.Layout.{part_layout}
use Rattle.facet_outline.specs.Mismatch.{is_mismatched}
use Rattle.facet_outline.specs.Offered.{has_unoffered_member}
use Rattle.facet_outline.specs.References.{eager_references, references}
use Rattle.facet_shape.specs.declared.shape.Shape.{Shape}

-- the place of a cause in their order
abbrev pub rank : SealCause → ℕ
rank cause.UnknownShape = 0
rank cause.EagerForward = 1
rank cause.Mismatch = 2
rank cause.UnsizedPart = 3
rank cause.InlineCycle = 4
rank cause.TooLarge = 5
rank cause.BadLayout = 6
rank cause.FieldOutside = 7
rank cause.FieldMisaligned = 8
rank cause.FieldOverlap = 9
rank cause.ZeroSizedScalar = 10
rank cause.DiscriminantRepeated = 11
rank cause.DiscriminantRange = 12
rank cause.KeyNotOrd = 13
rank cause.CapabilityMissing = 14

-- two fields of a struct or of one variant share a byte, or one shares a byte with the tag
abbrev pub HasOverlap : List Shape → Shape → Type 0
HasOverlap shapes shape =
    Any (λ body. HaveOverlap (spans_of (layout_at shapes) (tag_bytes (kind_in shapes shape) shape.ty) body)) (bodies (kind_in shapes shape) shape.ty)

module _ {L : Type 0} (m : LeafModel L) (shapes : List Shape) where
  -- a shape, which stands under the id s, meets the cause
  abbrev pub ShapeMeets : SealCause → ℕ → Shape → Type 0
  ShapeMeets cause.UnknownShape s shape = Any (λ id. length shapes ≤ id.0) (references shape)
  ShapeMeets cause.EagerForward s shape = Any (λ id. s ≤ id.0) (eager_references shape)
  ShapeMeets cause.Mismatch s shape = IsTrue (is_mismatched (layout_at shapes) shape)
  ShapeMeets cause.UnsizedPart s shape = IsTrue (has_unsized_part (layout_at shapes) (element_of shapes shape.def) shape)
  ShapeMeets cause.InlineCycle s shape = ReachesItself (inline_at shapes) s
  ShapeMeets cause.TooLarge s shape = IsTooLarge shapes s shape
  ShapeMeets cause.BadLayout s shape = IsTrue (has_bad_layout (layout_at shapes) (element_of shapes shape.def) shape)
  ShapeMeets cause.FieldOutside s shape = IsTrue (has_field_outside (layout_at shapes) (kind_in shapes shape) shape.ty (part_layout shape.layout).size)
  ShapeMeets cause.FieldMisaligned s shape = IsTrue (has_field_misaligned (layout_at shapes) (kind_in shapes shape) shape.ty)
  ShapeMeets cause.FieldOverlap s shape = HasOverlap shapes shape
  ShapeMeets cause.ZeroSizedScalar s shape = IsTrue (is_leaf_without_bytes (kind_in shapes shape) shape.layout)
  ShapeMeets cause.DiscriminantRepeated s shape = HasRepeat (discriminants_of_kind (kind_in shapes shape) shape.ty)
  ShapeMeets cause.DiscriminantRange s shape = HasDiscriminantOutside (kind_in shapes shape) shape.ty
  ShapeMeets cause.KeyNotOrd s shape = HasKeyWithoutOrder shapes shape
  ShapeMeets cause.CapabilityMissing s shape = IsTrue (has_unoffered_member m (element_of shapes shape.def) shape)

  -- the shape under the id s meets the cause
  abbrev pub Meets : SealCause → ℕ → Type 0
  Meets c s = OfShape (ShapeMeets c s) (slice_get shapes s)

  -- no shape meets a cause
  abbrev pub IsWellFormed : Type 0
  IsWellFormed = (c : SealCause) (s : ℕ) → s < length shapes → ¬ Meets c s

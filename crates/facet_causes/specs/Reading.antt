-- What is read off the shapes of a list. The id of a shape is its index.
use Rattle.std.specs.Prelude.{ℕ, Bool, false, not, ◌&&◌, List, [], ◌++◌, Option, None, Some, map, slice_get}
use Rattle.std.specs.Option.{option_and_then, option_map_or}
use Rattle.facet_base.specs.declared.characteristic.Characteristic.TheVariants as trait
use Rattle.facet_base.specs.declared.layout.ShapeId.{ShapeId}
use Rattle.facet_base.specs.declared.layout.ShapeLayout.{ShapeLayout}
use Rattle.facet_base.specs.declared.layout.ShapeLayout.TheVariants as layout
use Rattle.facet_def.specs.declared.def.Def.{Def}
use Rattle.facet_graph.specs.declared.graph.WeightedEdge.{WeightedEdge}
use Rattle.facet_outline.specs.BadLayout.{has_values}
use Rattle.facet_outline.specs.Part.{inline_parts, parts, repetition}
use Rattle.facet_outline.specs.References.{height_references}
use Rattle.facet_outline.specs.ValueKind.{kind_of, pointee_of, slice_element}
use Rattle.facet_outline.specs.declared.value_kind.ValueKind.{ValueKind}
use Rattle.facet_shape.specs.Capability.{can}
use Rattle.facet_shape.specs.declared.shape.Shape.{Shape}
use Rattle.facet_type_name.specs.Name.{name_children, own_name_bytes}

-- the ids as indices
abbrev pub indices : List ShapeId → List ℕ
indices ids = map (λ id. id.0) ids

-- P holds of the shape, and there is one
abbrev pub OfShape : (Shape → Type 0) → Option Shape → Type 0
OfShape P None = ⊥
OfShape P (Some shape) = P shape

module _ (shapes : List Shape) where
  -- the layout of the shape under an id, which is unsized where there is none
  abbrev pub layout_at : ShapeId → ShapeLayout
  layout_at id = option_map_or (λ shape. shape.layout) (slice_get shapes id.0) layout.Unsized

  -- the elements of the slice that a definition points to, if it points to one
  abbrev pub element_of : Def → Option ShapeId
  element_of d = option_and_then (λ id. option_and_then (λ shape. slice_element shape.def) (slice_get shapes id.0)) (pointee_of d)

  -- what the values of a shape are
  abbrev pub kind_in : Shape → ValueKind
  kind_in shape = kind_of (element_of shape.def) shape

  -- there is an order of the values of a shape
  abbrev pub has_order : Shape → Bool
  has_order shape = has_values (kind_in shape) && can shape trait.Ord

  -- the parts that lie inside the values of the shape under an id
  unfoldable pub inline_of : ℕ → List ShapeId
  inline_of s = option_map_or (λ shape. inline_parts (element_of shape.def) shape) (slice_get shapes s) []

  -- the parts of the values of the shape under an id
  unfoldable pub parts_of : ℕ → List ShapeId
  parts_of s = option_map_or (λ shape. parts (element_of shape.def) shape) (slice_get shapes s) []

  -- what must stand before the shape under an id for another reason than its variance
  unfoldable pub before_of : ℕ → List ShapeId
  before_of s = option_map_or height_references (slice_get shapes s) []

  -- the shapes whose names the full name of the shape under an id has
  unfoldable pub name_children_of : ℕ → List ShapeId
  name_children_of s = option_map_or name_children (slice_get shapes s) []

  -- how many bytes of its full name aren't of these
  unfoldable pub own_name_bytes_of : ℕ → ℕ
  own_name_bytes_of s = option_map_or own_name_bytes (slice_get shapes s) 0

  -- how often each of those inline parts is there: an array has its element so many times
  unfoldable pub repetition_of : ℕ → ℕ
  repetition_of s = option_map_or (λ shape. repetition shape.def) (slice_get shapes s) 1

  -- there is no order of the values of the shape under an id
  unfoldable pub lacks_order : ℕ → Bool
  lacks_order s = not (option_map_or has_order (slice_get shapes s) false)

  -- the same as indices
  abbrev pub inline_at : ℕ → List ℕ
  inline_at s = indices (inline_of s)

  abbrev pub parts_at : ℕ → List ℕ
  parts_at s = indices (parts_of s)

  abbrev pub before_at : ℕ → List ℕ
  before_at s = indices (before_of s)

  -- the inline parts as edges, each with how often it is there
  abbrev pub repeated_at : ℕ → List WeightedEdge
  repeated_at s = map (λ id. record { node = id.0; weight = repetition_of s }) (inline_of s)

  -- the children of its name as edges, and what else must stand before it, which adds nothing to the name
  abbrev pub named_at : ℕ → List WeightedEdge
  named_at s = map (λ id. record { node = id.0; weight = 1 }) (name_children_of s) ++ map (λ id. record { node = id.0; weight = 0 }) (before_of s)

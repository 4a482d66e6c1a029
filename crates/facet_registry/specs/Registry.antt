-- The registry: the sealed shapes and the drafts behind them, and what is read off a list of shapes.
use Rattle.std.specs.Prelude.{ℕ, Bool, false, List, [], ◌∷◌, ◌++◌, drop, length, slice_get, take, unwrap_or}
use Rattle.std.specs.Option.{option_map_or}
use Rattle.facet_base.specs.declared.characteristic.Characteristic.{Characteristic}
use Rattle.facet_causes.specs.Reading.{kind_in}
use Rattle.facet_shape.specs.declared.shape.Shape.{Shape}
use Rattle.facet_shape.specs.Capability.{can}
use Rattle.facet_base.specs.ShapeLayout.{size_in_bytes}
use Rattle.facet_shape.specs.WithoutSpare.{shape_without_spare}
use Rattle.facet_outline.specs.declared.value_kind.ValueKind.{ValueKind}
use Rattle.facet_outline.specs.declared.value_kind.ValueKind.TheVariants as kind

-- the sealed shapes in order of their ids, and the drafts, whose ids go on behind theirs
pub record Registry : Type 0 where
  pub sealed : List Shape
  pub drafts : List Shape

-- all shapes in order of their ids
abbrev pub all_shapes : Registry → List Shape
all_shapes registry = registry.sealed ++ registry.drafts

-- the first shapes of a list, sealed, and the others as drafts
abbrev pub sealed_until : ℕ → List Shape → Registry
sealed_until n shapes = record { sealed = take n shapes; drafts = drop n shapes }

-- the shape under another id
abbrev pub with_id : ℕ → Shape → Shape
with_id id shape = record shape { id = record { 0 = id } }

-- the registry with one draft more, under the next id
abbrev pub with_draft : Registry → Shape → Registry
with_draft registry shape = record registry { drafts = registry.drafts ++ with_id (length (all_shapes registry)) (shape_without_spare shape) ∷ [] }

-- the registry without its drafts
abbrev pub without_drafts : Registry → Registry
without_drafts registry = record registry { drafts = [] }

-- the registry with all its shapes sealed
abbrev pub all_sealed : Registry → Registry
all_sealed registry = record { sealed = all_shapes registry; drafts = [] }

-- what the values of the shape under an id are; without a shape there are none
abbrev pub kind_at : List Shape → ℕ → ValueKind
kind_at shapes s = option_map_or (kind_in shapes) (slice_get shapes s) kind.NoValue

-- the size in bytes of the values of the shape under an id, 0 where they share none or there is no shape
abbrev pub size_at : List Shape → ℕ → ℕ
size_at shapes s = option_map_or (λ shape. unwrap_or (size_in_bytes shape.layout) 0) (slice_get shapes s) 0

-- the values of the shape under an id can do that
abbrev pub offers : List Shape → ℕ → Characteristic → Bool
offers shapes s c = option_map_or (λ shape. can shape c) (slice_get shapes s) false

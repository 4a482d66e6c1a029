-- Where the parts lie in the values of a shape, by the layouts of the shapes that are there.
use Rattle.std.specs.Prelude.{ℕ, List, slice_get}
use Rattle.std.specs.Option.{option_map_or}
pub use Rattle.facet_causes.specs.Arrangement.{part_at}
use Rattle.facet_def.specs.declared.def.Def.{Def}
use Rattle.facet_def.specs.declared.def.Def.TheVariants as def
use Rattle.facet_outline.specs.Field.{tag_bytes}
use Rattle.facet_outline.specs.Layout.{option_offset, result_offset, value_offset}
use Rattle.facet_outline.specs.declared.value_kind.ValueKind.TheVariants as kind
use Rattle.facet_shape.specs.declared.shape.Shape.{Shape}

-- how many bytes the tag of the enum under an id takes
abbrev pub tag_width_at : List Shape → ℕ → ℕ
tag_width_at shapes s = option_map_or (λ shape. tag_bytes kind.Enum shape.ty) (slice_get shapes s) 0

module _ (shapes : List Shape) where
  -- where the part of an option or of a result lies, by the definition
  abbrev pub part_offset_by_def : Def → ℕ
  part_offset_by_def (def.Option d) = option_offset (part_at shapes d.t)
  part_offset_by_def (def.Result d) = result_offset (part_at shapes d.t) (part_at shapes d.e)
  part_offset_by_def _ = 0

  -- the same of the shape under an id
  abbrev pub part_offset_at : ℕ → ℕ
  part_offset_at s = option_map_or (λ shape. part_offset_by_def shape.def) (slice_get shapes s) 0

  -- where the value lies in a pair of a map, by the definition
  abbrev pub pair_value_offset_by_def : Def → ℕ
  pair_value_offset_by_def (def.Map d) = value_offset (part_at shapes d.k) (part_at shapes d.v)
  pair_value_offset_by_def _ = 0

  -- the same of the shape under an id
  abbrev pub pair_value_offset_at : ℕ → ℕ
  pair_value_offset_at s = option_map_or (λ shape. pair_value_offset_by_def shape.def) (slice_get shapes s) 0

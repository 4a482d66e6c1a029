-- What the values of a shape are made of is there. It holds of each shape of a list that is well formed.
use Rattle.std.specs.Prelude.{◌≡◌, ◌<◌, true, false, All, Contains, List, length}
use Rattle.facet_causes.specs.Arrangement.{arrangements}
use Rattle.facet_causes.specs.Reading.{element_of, kind_in, layout_at}
use Rattle.facet_outline.specs.BadLayout.{has_values, is_unsized}
use Rattle.facet_outline.specs.Part.{inline_parts, parts}
use Rattle.facet_outline.specs.References.{references}
use Rattle.facet_shape.specs.declared.shape.Shape.{Shape}

module _ (shapes : List Shape) where
  -- each shape that it refers to is there
  abbrev pub ReferencesAreKnown : Shape → Type 0
  ReferencesAreKnown shape = All (λ id. id.0 < length shapes) (references shape)

  -- the values share a layout, and each part of them is there and shares one
  pub record PartsAreSized (shape : Shape) : Type 0 where
    pub own : has_values (kind_in shapes shape) ≡ true → is_unsized shape.layout ≡ false
    pub known : All (λ id. id.0 < length shapes) (parts (element_of shapes shape.def) shape)
    pub sized : All (λ id. is_unsized (layout_at shapes id) ≡ false) (parts (element_of shapes shape.def) shape)

  -- each part that has a place is an inline part
  abbrev pub PlacedAreInline : Shape → Type 0
  PlacedAreInline shape = All (All (λ part. Contains (inline_parts (element_of shapes shape.def) shape) part.shape)) (arrangements shapes shape)

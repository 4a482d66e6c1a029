-- Where the inline parts of a value lie, for every kind that has some.
use Rattle.std.specs.Prelude.{ℕ, ◌*◌, List, [], ◌∷◌, map}
use Rattle.std.specs.List.{range_with_len}
use Rattle.facet_base.specs.declared.layout.Layout.{Layout}
use Rattle.facet_base.specs.declared.layout.ShapeId.{ShapeId}
use Rattle.facet_base.specs.declared.layout.ShapeLayout.{ShapeLayout}
use Rattle.facet_causes.specs.Reading.{kind_in, layout_at}
use Rattle.facet_def.specs.declared.def.Def.{Def}
use Rattle.facet_def.specs.declared.def.Def.TheVariants as def
use Rattle.facet_desc.specs.declared.ty.Ty.{Ty}
use Rattle.facet_outline.specs.Field.{bodies, tag_bytes}
use Rattle.facet_outline.specs.Layout.{option_offset, part_layout, result_offset}
use Rattle.facet_outline.specs.declared.placed_fields.PlacedField.{PlacedField}
use Rattle.facet_outline.specs.declared.value_kind.ValueKind.{ValueKind}
use Rattle.facet_outline.specs.declared.value_kind.ValueKind.TheVariants as kind
use Rattle.facet_shape.specs.declared.shape.Shape.{Shape}

-- how many bytes the tag of a value takes, at offset 0: options and results have one too
abbrev pub tag_size_of_kind : ValueKind → Ty → ℕ
tag_size_of_kind kind.Option t = 1
tag_size_of_kind kind.Result t = 1
tag_size_of_kind k t = tag_bytes k t

-- a single part at an offset
abbrev pub single : ShapeId → ℕ → List PlacedField
single id offset = record { shape = id; offset = offset } ∷ []

-- n parts of one shape, each so many bytes behind the one before
abbrev pub in_a_row : ShapeId → ℕ → ℕ → List PlacedField
in_a_row id n size = map (λ i. record { shape = id; offset = i * size }) (range_with_len 0 n)

-- the parts that lie side by side in one value: under an enum's, an option's and a result's tag a list of its own, else one list. Kinds without inline parts have none
abbrev pub arrangements_of_kind : (ShapeId → ShapeLayout) → ValueKind → Def → Ty → List (List PlacedField)
arrangements_of_kind layouts kind.Option (def.Option o) t = [] ∷ single o.t (option_offset (part_layout (layouts o.t))) ∷ []
arrangements_of_kind layouts kind.Result (def.Result r) t =
    let offset = result_offset (part_layout (layouts r.t)) (part_layout (layouts r.e)) in single r.t offset ∷ single r.e offset ∷ []
arrangements_of_kind layouts kind.Array (def.Array a) t = in_a_row a.t a.n (part_layout (layouts a.t)).size ∷ []
arrangements_of_kind layouts k d t = bodies k t

module _ (shapes : List Shape) where
  -- what the layout of the shape under an id counts as in one that is made of it
  abbrev pub part_at : ShapeId → Layout
  part_at id = part_layout (layout_at shapes id)

  -- how many bytes the tag of the values of a shape takes
  abbrev pub tag_size : Shape → ℕ
  tag_size shape = tag_size_of_kind (kind_in shapes shape) shape.ty

  -- the inline parts of the values of a shape, in lists of those that lie side by side
  unfoldable pub arrangements : Shape → List (List PlacedField)
  arrangements shape = arrangements_of_kind (layout_at shapes) (kind_in shapes shape) shape.def shape.ty

-- Whether the layout of a shape is one that its values can have.
use Rattle.std.specs.Prelude.{ℕ, ◌%◌, ◌==◌, ◌&&◌, ◌||◌, Bool, true, false, not, Option, None, Some, nat_lt}
use Rattle.std.specs.Int.{is_power_of_two}
use Rattle.std.specs.List.{list_any}
use Rattle.std.specs.Option.{option_map_or}
use Rattle.facet_base.specs.declared.layout.Layout.{Layout}
use Rattle.facet_base.specs.declared.layout.ShapeId.{ShapeId}
use Rattle.facet_base.specs.declared.layout.ShapeLayout.{ShapeLayout}
use Rattle.facet_base.specs.declared.layout.ShapeLayout.TheVariants as layout
use Rattle.facet_base.specs.declared.scalar_type.ScalarType.TheVariants as scalar
use Rattle.facet_def.specs.declared.def.Def.{Def}
use Rattle.facet_def.specs.declared.def.Def.TheVariants as def
use Rattle.facet_desc.specs.declared.ty.Ty.{Ty}
use Rattle.facet_outline.specs.Field.{is_packed_struct, tag_bytes}
use Rattle.facet_outline.specs.Layout.{array_layout, box_layout, boxed_slice_layout, container_layout, option_layout, part_layout, result_layout, scalar_layout}
use Rattle.facet_outline.specs.Part.{inline_parts, parts}
use Rattle.facet_outline.specs.ValueKind.{kind_of}
use Rattle.facet_outline.specs.declared.value_kind.ValueKind.{ValueKind}
use Rattle.facet_outline.specs.declared.value_kind.ValueKind.TheVariants as kind
use Rattle.facet_shape.specs.declared.shape.Shape.{Shape}

-- values share no layout
abbrev pub is_unsized : ShapeLayout → Bool
is_unsized (layout.Sized l) = false
is_unsized layout.Unsized = true

-- there are values of the kind
abbrev pub has_values : ValueKind → Bool
has_values kind.NoValue = false
has_values _ = true

-- the values of a shape, or those of one of its parts, share no layout
unfoldable pub has_unsized_part : (ShapeId → ShapeLayout) → Option ShapeId → Shape → Bool
has_unsized_part layouts element s = (has_values (kind_of element s) && is_unsized s.layout) || list_any (λ id. is_unsized (layouts id)) (parts element s)

-- two sizes and two alignments are the same
abbrev pub same_layout : ShapeLayout → ShapeLayout → Bool
same_layout (layout.Sized a) (layout.Sized b) = (a.size == b.size) && (a.align == b.align)
same_layout layout.Unsized layout.Unsized = true
same_layout _ _ = false

-- values take a byte or more
abbrev pub has_bytes : ShapeLayout → Bool
has_bytes (layout.Sized l) = nat_lt 0 l.size
has_bytes layout.Unsized = false

-- the alignment is no power of two, or the size no multiple of it
abbrev pub is_uneven : ShapeLayout → Bool
is_uneven (layout.Sized l) = not (is_power_of_two l.align) || not (l.size % l.align == 0)
is_uneven layout.Unsized = false

-- the unit or a leaf takes bytes, and has another layout than its scalar
abbrev pub is_no_scalar_layout : ValueKind → ShapeLayout → Bool
is_no_scalar_layout kind.Unit l = has_bytes l && not (same_layout l (scalar_layout scalar.Unit))
is_no_scalar_layout (kind.Leaf k) l = has_bytes l && not (same_layout l (scalar_layout k))
is_no_scalar_layout _ l = false

-- a value takes more than 65,536 bytes
abbrev pub is_too_large : ShapeLayout → Bool
is_too_large (layout.Sized l) = nat_lt 65536 l.size
is_too_large layout.Unsized = false

-- a leaf takes no byte
abbrev pub is_leaf_without_bytes : ValueKind → ShapeLayout → Bool
is_leaf_without_bytes (kind.Leaf k) l = not (has_bytes l)
is_leaf_without_bytes _ l = false

-- the layout of an option, a result or an array, which follows from those of the parts
abbrev pub layout_of_parts : (ShapeId → ShapeLayout) → Def → Option Layout
layout_of_parts layouts (def.Option o) = Some (option_layout (part_layout (layouts o.t)))
layout_of_parts layouts (def.Result r) = Some (result_layout (part_layout (layouts r.t)) (part_layout (layouts r.e)))
layout_of_parts layouts (def.Array a) = Some (array_layout a.n (part_layout (layouts a.t)))
layout_of_parts layouts _ = None

-- the layout that values of a kind have, where the kind and the definition say which
abbrev pub layout_of_kind : (ShapeId → ShapeLayout) → ValueKind → Def → Option Layout
layout_of_kind layouts kind.Option d = layout_of_parts layouts d
layout_of_kind layouts kind.Result d = layout_of_parts layouts d
layout_of_kind layouts kind.Array d = layout_of_parts layouts d
layout_of_kind layouts kind.List d = Some container_layout
layout_of_kind layouts kind.Map d = Some container_layout
layout_of_kind layouts kind.Set d = Some container_layout
layout_of_kind layouts kind.Box d = Some box_layout
layout_of_kind layouts kind.BoxedSlice d = Some boxed_slice_layout
layout_of_kind layouts _ d = None

-- the kind and the definition say which layout values have, and it is another one
abbrev pub is_no_layout_of_kind : (ShapeId → ShapeLayout) → ValueKind → Def → ShapeLayout → Bool
is_no_layout_of_kind layouts k d l = option_map_or (λ m. not (same_layout l (layout.Sized m))) (layout_of_kind layouts k d) false

-- the alignment of fields counts: they are those of an enum, or of a struct that isn't packed
abbrev pub aligns_fields : ValueKind → Ty → Bool
aligns_fields kind.Struct t = not (is_packed_struct kind.Struct t)
aligns_fields kind.Enum t = true
aligns_fields _ t = false

-- an alignment is below that of a shape
abbrev pub is_below : (ShapeId → ShapeLayout) → ℕ → ShapeId → Bool
is_below layouts align id = nat_lt align (part_layout (layouts id)).align

-- a struct or an enum has an alignment below that of an inline part, or below the size of the tag
abbrev pub is_aligned_below_parts : (ShapeId → ShapeLayout) → Option ShapeId → Shape → Bool
is_aligned_below_parts layouts element s =
    (aligns_fields (kind_of element s) s.ty && list_any (is_below layouts (part_layout s.layout).align) (inline_parts element s))
    || nat_lt (part_layout s.layout).align (tag_bytes (kind_of element s) s.ty)

-- the layout is none that the values can have
unfoldable pub has_bad_layout : (ShapeId → ShapeLayout) → Option ShapeId → Shape → Bool
has_bad_layout layouts element s =
    is_uneven s.layout
    || is_no_scalar_layout (kind_of element s) s.layout
    || is_no_layout_of_kind layouts (kind_of element s) s.def s.layout
    || is_aligned_below_parts layouts element s

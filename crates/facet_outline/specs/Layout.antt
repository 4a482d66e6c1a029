-- The layouts of scalars, and of shapes that are made of others.
use Rattle.std.specs.Prelude.{◌≡◌, ℕ, ◌+◌, ◌*◌, ◌≤◌, List, [], ◌∷◌, max, min}
use Rattle.std.specs.Int.{next_multiple_of}
use Rattle.facet_base.specs.declared.layout.Layout.{Layout}
use Rattle.facet_base.specs.declared.layout.ShapeLayout.{ShapeLayout}
use Rattle.facet_base.specs.declared.layout.ShapeLayout.TheVariants as layout
use Rattle.facet_base.specs.declared.scalar_type.ScalarType.{ScalarType}
use Rattle.facet_base.specs.declared.scalar_type.ScalarType.TheVariants as scalar

-- a size and an alignment in bytes
abbrev pub sized : ℕ → ℕ → ShapeLayout
sized size align = layout.Sized (record { size = size; align = align })

-- the layout of the scalars of a kind
abbrev pub scalar_layout : ScalarType → ShapeLayout
scalar_layout scalar.Unit = sized 0 1
scalar_layout scalar.Bool = sized 1 1
scalar_layout scalar.Char = sized 4 4
scalar_layout scalar.Str = layout.Unsized
scalar_layout scalar.String = sized 24 8
scalar_layout scalar.U8 = sized 1 1
scalar_layout scalar.U16 = sized 2 2
scalar_layout scalar.U32 = sized 4 4
scalar_layout scalar.U64 = sized 8 8
scalar_layout scalar.U128 = sized 16 16
scalar_layout scalar.USize = sized 8 8
scalar_layout scalar.I8 = sized 1 1
scalar_layout scalar.I16 = sized 2 2
scalar_layout scalar.I32 = sized 4 4
scalar_layout scalar.I64 = sized 8 8
scalar_layout scalar.I128 = sized 16 16
scalar_layout scalar.ISize = sized 8 8

-- a computed size or offset, which is at most 2^32 - 1
abbrev pub capped : ℕ → ℕ
capped n = min n 4294967295

-- an alignment, where 0 counts as 1
abbrev pub alignment : ℕ → ℕ
alignment a = max a 1

-- n rounded up to an alignment
unfoldable pub up : ℕ → ℕ → ℕ
up n a = next_multiple_of n (alignment a)

-- m is the least multiple of a that is n or more
pub record IsLeastMultiple (a n m : ℕ) : Type 0 where
  pub factor : ℕ
  pub multiple : m ≡ factor * a
  pub reaches : n ≤ m
  pub least : (k : ℕ) → n ≤ k * a → m ≤ k * a

-- what a layout counts as in one that is made of it: an unsized one as no byte, and an alignment of 0 as 1
abbrev pub part_layout : ShapeLayout → Layout
part_layout (layout.Sized l) = record { size = l.size; align = alignment l.align }
part_layout layout.Unsized = record { size = 0; align = 1 }

-- so many bytes, rounded up to the alignment
abbrev pub rounded : ℕ → ℕ → Layout
rounded size align = record { size = capped (up size align); align = align }

-- the offset of the part of an option: its alignment
abbrev pub option_offset : Layout → ℕ
option_offset part = capped part.align

-- an option: the tag at 0, and then the part
abbrev pub option_layout : Layout → Layout
option_layout part = rounded (part.align + part.size) part.align

-- the offset of either part of a result: the greater alignment
abbrev pub result_offset : Layout → Layout → ℕ
result_offset part error = capped (max part.align error.align)

-- a result: the tag at 0, and then either part
abbrev pub result_layout : Layout → Layout → Layout
result_layout part error = let align = max part.align error.align in rounded (align + max part.size error.size) align

-- an array: n elements, one behind the other
abbrev pub array_layout : ℕ → Layout → Layout
array_layout n element = record { size = capped (n * element.size); align = element.align }

-- a list, a map or a set
abbrev pub container_layout : Layout
container_layout = record { size = 24; align = 8 }

-- a box of a value
abbrev pub box_layout : Layout
box_layout = record { size = 8; align = 8 }

-- a box of the elements of a slice
abbrev pub boxed_slice_layout : Layout
boxed_slice_layout = record { size = 16; align = 8 }

-- the offset of the value in a pair of a map, whose key lies at 0
abbrev pub value_offset : Layout → Layout → ℕ
value_offset key value = capped (up key.size value.align)

-- a pair of a map: the key and then the value
abbrev pub pair_layout : Layout → Layout → Layout
pair_layout key value = rounded (value_offset key value + value.size) (max key.align value.align)

-- the offset of a field of a tuple behind so many bytes: the next one of its alignment
abbrev pub next_offset : ℕ → Layout → ℕ
next_offset behind field = capped (up behind field.align)

-- the offsets of fields that lie one behind the other, behind so many bytes
unfoldable pub offsets_behind : ℕ → List Layout → List ℕ
offsets_behind behind [] = []
offsets_behind behind (field ∷ fields) = next_offset behind field ∷ offsets_behind (next_offset behind field + field.size) fields

-- where the last of them ends
unfoldable pub end_behind : ℕ → List Layout → ℕ
end_behind behind [] = behind
end_behind behind (field ∷ fields) = end_behind (next_offset behind field + field.size) fields

-- the greatest alignment, and 1 without a field
unfoldable pub greatest_alignment : List Layout → ℕ
greatest_alignment [] = 1
greatest_alignment (field ∷ fields) = max field.align (greatest_alignment fields)

-- a tuple: its fields one behind the other
abbrev pub tuple_layout : List Layout → Layout
tuple_layout fields = rounded (end_behind 0 fields) (greatest_alignment fields)

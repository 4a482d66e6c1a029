-- Where the parts of the values of a shape lie: inside, apart from each other, aligned. It holds of each shape of a list that is well formed.
use Rattle.std.specs.Prelude.{◌≡◌, ℕ, ◌+◌, ◌%◌, ◌≤◌, ◌&&◌, false, All, AllPairs, List}
use Rattle.std.specs.Int.{IsPowerOfTwo}
use Rattle.facet_base.specs.declared.layout.Layout.{Layout}
use Rattle.facet_base.specs.declared.layout.ShapeId.{ShapeId}
use Rattle.facet_causes.specs.Arrangement.{arrangements, part_at, tag_size}
use Rattle.facet_causes.specs.Reading.{kind_in, layout_at}
use Rattle.facet_graph.specs.Repeats.{has_byte}
use Rattle.facet_graph.specs.declared.overlap.Span.{Span}
use Rattle.facet_outline.specs.Field.{is_packed_struct, spans_of}
use Rattle.facet_outline.specs.Layout.{pair_layout, part_layout, value_offset}
use Rattle.facet_outline.specs.declared.placed_fields.PlacedField.{PlacedField}
use Rattle.facet_shape.specs.declared.shape.Shape.{Shape}

-- no byte lies in both spans
abbrev pub ShareNoByte : Span → Span → Type 0
ShareNoByte a b = (byte : ℕ) → (has_byte byte a && has_byte byte b) ≡ false

-- a pair of a map holds the key and behind it the value
pub record HoldsBoth (key value : Layout) : Type 0 where
  pub key_before : key.size ≤ value_offset key value
  pub value_inside : value_offset key value + value.size ≤ (pair_layout key value).size

-- the alignment is a power of two, of which the size is a multiple
pub record IsEven (layout : Layout) : Type 0 where
  pub power : IsPowerOfTwo layout.align
  pub multiple : layout.size % layout.align ≡ 0

module _ (shapes : List Shape) where
  -- a part ends within so many bytes
  abbrev pub EndsWithin : ℕ → PlacedField → Type 0
  EndsWithin size part = part.offset + (part_at shapes part.shape).size ≤ size

  -- the offset of a part is a multiple of its alignment
  abbrev pub IsAtMultiple : PlacedField → Type 0
  IsAtMultiple part = part.offset % (part_at shapes part.shape).align ≡ 0

  -- the tag and each inline part end within the size
  pub record PartsLieInside (shape : Shape) : Type 0 where
    pub tag : tag_size shapes shape ≤ (part_layout shape.layout).size
    pub parts : All (All (EndsWithin (part_layout shape.layout).size)) (arrangements shapes shape)

  -- of the tag and the inline parts that lie side by side no two share a byte
  abbrev pub PartsAreApart : Shape → Type 0
  PartsAreApart shape = All (λ parts. AllPairs ShareNoByte (spans_of (layout_at shapes) (tag_size shapes shape) parts)) (arrangements shapes shape)

  -- the layout is even, and each inline part lies at a multiple of its alignment, but for the fields of a packed struct
  pub record PartsAreAligned (shape : Shape) : Type 0 where
    pub even : IsEven (part_layout shape.layout)
    pub parts : is_packed_struct (kind_in shapes shape) shape.ty ≡ false → All (All IsAtMultiple) (arrangements shapes shape)

  -- a pair of any two shapes, as a map has them, holds the key and behind it the value
  abbrev pub PairsHoldBoth : Type 0
  PairsHoldBoth = (key value : ShapeId) → HoldsBoth (part_at shapes key) (part_at shapes value)

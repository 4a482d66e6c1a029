-- Ranges of bytes, and what a change leaves of the items in and beside them.
use Rattle.std.specs.Prelude.{◌≡◌, ℕ, ◌+◌, ◌<◌, ◌≤◌, ◌⊎◌, None}
use Rattle.facet_block.specs.declared.block.Block.{Block}
use Rattle.facet_block.specs.Block.{item_at, size_of}

-- so many bytes from an offset on
pub record Span : Type 0 where
  pub start : ℕ
  pub len : ℕ

-- the span of so many bytes from an offset on
abbrev pub span : ℕ → ℕ → Span
span start len = record { start = start; len = len }

-- an offset lies in the span
abbrev pub IsWithin : ℕ → Span → Type 0
IsWithin i range = (range.start ≤ i) × (i < range.start + range.len)

-- an offset lies before the span or behind it
abbrev pub IsBeside : ℕ → Span → Type 0
IsBeside i range = (i < range.start) ⊎ (range.start + range.len ≤ i)

-- no byte lies in both spans
abbrev pub IsApart : Span → Span → Type 0
IsApart a b = (i : ℕ) → IsBeside i a ⊎ IsBeside i b

module _ {X : Type 0} where
  -- no item lies in the span, which may pass the block
  abbrev pub IsEmptyIn : Block X → Span → Type 0
  IsEmptyIn b range = (i : ℕ) → IsWithin i range → item_at b i ≡ None

  -- the second block holds in the span what the first holds there
  abbrev pub IsKept : Block X → Block X → Span → Type 0
  IsKept old new range = (i : ℕ) → IsWithin i range → item_at new i ≡ item_at old i

  -- the span lies in the block, and no item lies in it
  pub record IsVacant (b : Block X) (range : Span) : Type 0 where
    pub inside : range.start + range.len ≤ size_of b
    pub empty : IsEmptyIn b range

  -- the second block is the first but for what lies in the span
  pub record IsChanged (old new : Block X) (range : Span) : Type 0 where
    pub size : size_of new ≡ size_of old
    pub outside : (i : ℕ) → IsBeside i range → item_at new i ≡ item_at old i

  -- the second block is the first, but no item lies in the span
  pub record IsCleared (old new : Block X) (range : Span) : Type 0 where
    pub size : size_of new ≡ size_of old
    pub empty : IsEmptyIn new range
    pub outside : (i : ℕ) → IsBeside i range → item_at new i ≡ item_at old i

-- Shapes that are too large, or lie too deep.
use Rattle.std.specs.Prelude.{ℕ, ◌⊎◌, IsTrue, List}
use Rattle.facet_graph.specs.Cost.{IsTooCostly}
use Rattle.facet_graph.specs.Height.{IsTooHigh}
use Rattle.facet_causes.specs.LongName.{HasLongName}
use Rattle.facet_causes.specs.Reading.{before_at, inline_at, repeated_at}
use Rattle.facet_outline.specs.BadLayout.{is_too_large}
use Rattle.facet_shape.specs.declared.shape.Shape.{Shape}

-- its values take more than 65,536 bytes
abbrev pub TakesManyBytes : Shape → Type 0
TakesManyBytes shape = IsTrue (is_too_large shape.layout)

-- a value is itself a part: its cost is one for each part, and one for each part of these
abbrev pub each_counts : ℕ → ℕ
each_counts s = 1

module _ (shapes : List Shape) where
  -- a value has more than 65,536 parts one in another, itself counted
  abbrev pub HasManyParts : ℕ → Type 0
  HasManyParts s = IsTooCostly (repeated_at shapes) each_counts s

  -- more than 100 parts lie one in another
  abbrev pub LiesDeep : ℕ → Type 0
  LiesDeep s = IsTooHigh (inline_at shapes) s

  -- more than 100 shapes must stand one before another
  abbrev pub StandsHigh : ℕ → Type 0
  StandsHigh s = IsTooHigh (before_at shapes) s

  -- a shape, which stands under the id s, is too large in one of five ways
  abbrev pub IsTooLarge : ℕ → Shape → Type 0
  IsTooLarge s shape = TakesManyBytes shape ⊎ HasManyParts s ⊎ HasLongName shapes s ⊎ LiesDeep s ⊎ StandsHigh s

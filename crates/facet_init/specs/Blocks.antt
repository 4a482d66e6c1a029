-- Which values have a sequence of blocks.
use Rattle.std.specs.Prelude.{⊤}
use Rattle.facet_outline.specs.declared.value_kind.ValueKind.{ValueKind}
use Rattle.facet_outline.specs.declared.value_kind.ValueKind.TheVariants as kind

-- the values of the kind have a sequence, and their shape's definition says what its blocks hold
abbrev pub HasBlocks : ValueKind → Type 0
HasBlocks kind.List = ⊤
HasBlocks kind.Map = ⊤
HasBlocks kind.Set = ⊤
HasBlocks kind.Box = ⊤
HasBlocks _ = ⊥

-- How many bytes a value takes.
use Rattle.std.specs.Prelude.{ℕ, Option, None, Some}
use Rattle.facet_base.specs.declared.layout.ShapeLayout.{ShapeLayout}
use Rattle.facet_base.specs.declared.layout.ShapeLayout.TheVariants.{Sized, Unsized}

-- the size in bytes that all values have, and none where they share none
abbrev pub size_in_bytes : ShapeLayout → Option ℕ
size_in_bytes (Sized layout) = Some layout.size
size_in_bytes Unsized = None

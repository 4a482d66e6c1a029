-- Shapes with a long name.
use Rattle.std.specs.Prelude.{ℕ, suc, ◌<◌, List, length}
use Rattle.facet_shape.specs.declared.shape.Shape.{Shape}
use Rattle.facet_type_name.specs.Name.{full_name}

-- the full name of the shape under an id has more than 65,536 bytes. Where names lead to lower ids, the name of s has at most s + 1 levels
abbrev pub HasLongName : List Shape → ℕ → Type 0
HasLongName shapes s = 65536 < length (full_name shapes (suc s) (record { 0 = s }))

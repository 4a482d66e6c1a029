-- Shapes whose values are leaves.
use Rattle.std.specs.Prelude.{◌≡◌, ℕ, List}
use Rattle.facet_base.specs.declared.scalar_type.ScalarType.{ScalarType}
use Rattle.facet_shape.specs.declared.shape.Shape.{Shape}
use Rattle.facet_trees.specs.Structure.{scalar, structure_at}

-- the values of a shape are leaves of some kind
abbrev pub IsOfLeaves : List Shape → ℕ → Type 0
IsOfLeaves shapes s = (k : ScalarType) × (structure_at shapes s ≡ scalar k)

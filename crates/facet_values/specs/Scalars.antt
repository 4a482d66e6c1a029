-- The kinds whose values have no parts.
use Rattle.std.specs.Prelude.{Bool, true, false}
use Rattle.facet_outline.specs.declared.value_kind.ValueKind.{ValueKind}
use Rattle.facet_outline.specs.declared.value_kind.ValueKind.TheVariants as kind

-- the unit and leaves
abbrev pub is_scalar : ValueKind → Bool
is_scalar kind.Unit = true
is_scalar (kind.Leaf k) = true
is_scalar _ = false

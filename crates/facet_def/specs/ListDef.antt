-- The operations of a list that need the type of its elements.
use Rattle.std.specs.Prelude.{Bool, false, Option}
use Rattle.std.specs.Option.{option_map_or}
use Rattle.facet_caps.specs.declared.list_type_ops.ListTypeOps.{ListTypeOps}

-- one of the operations, which is not offered where there are none
abbrev pub offers : Option ListTypeOps → (ListTypeOps → Bool) → Bool
offers type_ops operation = option_map_or operation type_ops false

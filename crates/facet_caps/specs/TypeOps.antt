-- The operations of a type, concrete or generic.
use Rattle.facet_caps.specs.declared.type_ops.TypeOps.{TypeOps}
use Rattle.facet_caps.specs.declared.type_ops.TypeOps.TheVariants as ops
use Rattle.facet_caps.specs.declared.type_ops.TypeOpsDirect.{TypeOpsDirect}

-- the operations of the type
abbrev pub operations_of : TypeOps → TypeOpsDirect
operations_of (ops.Direct o) = o
operations_of (ops.Indirect o) =
    record {
      drop_in_place = o.drop_in_place;
      default_in_place = o.default_in_place;
      clone_into = o.clone_into;
      is_truthy = o.is_truthy;
    }

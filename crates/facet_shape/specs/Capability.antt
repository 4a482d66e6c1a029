-- What the values of a shape can do.
use Rattle.std.specs.Prelude.{Bool, false}
use Rattle.std.specs.Option.{option_map_or}
use Rattle.facet_base.specs.declared.characteristic.Characteristic.{Characteristic}
use Rattle.facet_base.specs.declared.characteristic.Characteristic.TheVariants.{Clone, Display, Debug, PartialEq, PartialOrd, Ord, Hash, Default, FromStr}
use Rattle.facet_caps.specs.declared.type_ops.TypeOpsDirect.{TypeOpsDirect}
use Rattle.facet_caps.specs.TypeOps.{operations_of}
use Rattle.facet_caps.specs.VTableErased.{capabilities_of}
use Rattle.facet_shape.specs.declared.shape.Shape.{Shape}

-- that operation of the type is there; none is where the shape has no operations
abbrev pub has_operation : (TypeOpsDirect → Bool) → Shape → Bool
has_operation operation s = option_map_or (λ o. operation (operations_of o)) s.type_ops false

-- whether values can do that, as the record of capabilities and the type's operations say
abbrev pub can : Shape → Characteristic → Bool
can s Clone = has_operation (λ o. o.clone_into) s
can s Display = (capabilities_of s.vtable).display
can s Debug = (capabilities_of s.vtable).debug
can s PartialEq = (capabilities_of s.vtable).partial_eq
can s PartialOrd = (capabilities_of s.vtable).partial_cmp
can s Ord = (capabilities_of s.vtable).cmp
can s Hash = (capabilities_of s.vtable).hash
can s Default = has_operation (λ o. o.default_in_place) s
can s FromStr = (capabilities_of s.vtable).parse

-- The struct without fields.
use Rattle.std.specs.Prelude.{[], false}
use Rattle.facet_base.specs.Many.{of_items}
use Rattle.facet_desc.specs.declared.repr.BaseRepr.TheVariants as base
use Rattle.facet_desc.specs.declared.struct_type.StructKind.TheVariants as kind
use Rattle.facet_desc.specs.declared.struct_type.StructType.{StructType}

-- the struct without fields, in C's representation
unfoldable pub unit_struct : StructType
unit_struct = record { repr = record { base = base.C; packed = false }; kind = kind.Unit; fields = of_items [] }

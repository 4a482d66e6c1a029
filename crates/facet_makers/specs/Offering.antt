-- What can be done with the values of a generic type, where each call takes the shape.
use Rattle.std.specs.Prelude.{Some, false}
use Rattle.facet_caps.specs.declared.type_ops.TypeOps.TheVariants as ops
use Rattle.facet_caps.specs.declared.type_ops.TypeOpsDirect.{TypeOpsDirect}
use Rattle.facet_caps.specs.declared.type_ops.TypeOpsIndirect.{TypeOpsIndirect}
use Rattle.facet_caps.specs.declared.vtable.VTableDirect.{VTableDirect}
use Rattle.facet_caps.specs.declared.vtable.VTableIndirect.{VTableIndirect}
use Rattle.facet_caps.specs.declared.vtable_erased.VTableErased.TheVariants as erased
use Rattle.facet_leaf.specs.LeafModel.{LeafModel}
use Rattle.facet_makers.specs.Types.{opaque}
use Rattle.facet_outline.specs.Offered.{hashing, offered_capabilities, offered_operations, operations}
use Rattle.facet_outline.specs.declared.value_kind.ValueKind.{ValueKind}
use Rattle.facet_shape.specs.declared.shape.Shape.{Shape}

-- the same capabilities of a generic type
abbrev pub indirect : VTableDirect → VTableIndirect
indirect v =
    record {
      display = v.display;
      debug = v.debug;
      hash = v.hash;
      invariants = v.invariants;
      parse = v.parse;
      parse_bytes = v.parse_bytes;
      try_from = v.try_from;
      try_into_inner = v.try_into_inner;
      try_borrow_inner = v.try_borrow_inner;
      partial_eq = v.partial_eq;
      partial_cmp = v.partial_cmp;
      cmp = v.cmp;
    }

-- the same operations of a generic type
abbrev pub indirect_operations : TypeOpsDirect → TypeOpsIndirect
indirect_operations o =
    record {
      drop_in_place = o.drop_in_place;
      default_in_place = o.default_in_place;
      clone_into = o.clone_into;
      is_truthy = o.is_truthy;
    }

-- the shape with these capabilities and operations, as those of a generic type
unfoldable pub with_record : VTableDirect → TypeOpsDirect → Shape → Shape
with_record capabilities operations s =
    record s {
      vtable = erased.Indirect (indirect capabilities);
      type_ops = Some (ops.Indirect (indirect_operations operations));
    }

-- the shape that offers equality, order, hash and debug text alone
abbrev pub offering_comparison : Shape → Shape
offering_comparison s = with_record hashing (operations false false false) s

-- the shape that offers all that may be asked of values of a kind, which is not that of structs
abbrev pub offering : {L : Type 0} → LeafModel L → ValueKind → Shape → Shape
offering m k s = with_record (offered_capabilities m k opaque) (offered_operations m k) s

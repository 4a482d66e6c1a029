-- What may be asked of the values of each kind.
use Rattle.std.specs.Prelude.{Bool, true, false, not, ◌&&◌, ◌||◌, List, [], ◌∷◌, Option}
use Rattle.std.specs.Option.{option_map_or}
use Rattle.facet_base.specs.declared.characteristic.Characteristic.TheVariants as trait
use Rattle.facet_base.specs.declared.layout.ShapeId.{ShapeId}
use Rattle.facet_base.specs.declared.scalar_type.ScalarType.{ScalarType}
use Rattle.facet_caps.specs.EmptyRecords.{empty_direct}
use Rattle.facet_caps.specs.TypeOps.{operations_of}
use Rattle.facet_caps.specs.VTableErased.{capabilities_of}
use Rattle.facet_caps.specs.declared.type_ops.TypeOps.{TypeOps}
use Rattle.facet_caps.specs.declared.type_ops.TypeOpsDirect.{TypeOpsDirect}
use Rattle.facet_caps.specs.declared.vtable.VTableDirect.{VTableDirect}
use Rattle.facet_desc.specs.declared.field.Field.{Field}
use Rattle.facet_desc.specs.declared.ty.Ty.{Ty}
use Rattle.facet_desc.specs.declared.ty.Ty.TheVariants as ty
use Rattle.facet_desc.specs.declared.ty.UserType.TheVariants as user
use Rattle.facet_leaf.specs.LeafModel.{LeafModel}
use Rattle.facet_leaf.specs.declared.hook.LeafHook.TheVariants as hook
use Rattle.facet_outline.specs.ValueKind.{kind_of}
use Rattle.facet_outline.specs.declared.value_kind.ValueKind.{ValueKind}
use Rattle.facet_outline.specs.declared.value_kind.ValueKind.TheVariants as kind
use Rattle.facet_shape.specs.Ty.{is_transparent_base}
use Rattle.facet_shape.specs.declared.shape.Shape.{Shape}

-- equality, both orders and the debug text
abbrev pub comparing : VTableDirect
comparing = record empty_direct { debug = true; partial_eq = true; partial_cmp = true; cmp = true }

-- these and the hash
abbrev pub hashing : VTableDirect
hashing = record comparing { hash = true }

-- there is one field
abbrev pub is_single : List Field → Bool
is_single (f ∷ []) = true
is_single _ = false

-- it is a struct that lies in memory as its one field does
abbrev pub wraps_a_field : Ty → Bool
wraps_a_field (ty.User (user.Struct s)) = is_transparent_base s.repr.base && is_single s.fields.items
wraps_a_field _ = false

-- a default, a clone, a truth value
abbrev pub operations : Bool → Bool → Bool → TypeOpsDirect
operations default clone truth = record { drop_in_place = false; default_in_place = default; clone_into = clone; is_truthy = truth }

module _ {L : Type 0} (m : LeafModel L) where
  -- what leaves of a kind can
  abbrev pub leaf_capabilities : ScalarType → VTableDirect
  leaf_capabilities k =
      record empty_direct {
        display = m.can k trait.Display;
        debug = m.can k trait.Debug;
        hash = m.can k trait.Hash;
        invariants = m.hook k hook.Invariants;
        parse = m.can k trait.FromStr;
        parse_bytes = m.hook k hook.ParseBytes;
        try_from = m.hook k hook.TryFrom;
        partial_eq = m.can k trait.PartialEq;
        partial_cmp = m.can k trait.PartialOrd;
        cmp = m.can k trait.Ord;
      }

  -- what may be asked of the values of a kind, of which a struct's type says whether it is its one field
  abbrev pub offered_capabilities : ValueKind → Ty → VTableDirect
  offered_capabilities kind.Unit t = hashing
  offered_capabilities (kind.Leaf k) t = leaf_capabilities k
  offered_capabilities kind.Struct t = record hashing { invariants = true; try_borrow_inner = wraps_a_field t }
  offered_capabilities kind.Enum t = hashing
  offered_capabilities kind.Option t = record hashing { display = true }
  offered_capabilities kind.Result t = hashing
  offered_capabilities kind.List t = comparing
  offered_capabilities kind.BoxedSlice t = comparing
  offered_capabilities kind.Array t = hashing
  offered_capabilities kind.Map t = empty_direct
  offered_capabilities kind.Set t = empty_direct
  offered_capabilities kind.Box t = record hashing { display = true }
  offered_capabilities kind.NoValue t = empty_direct

  -- whether values of a kind may have a default, a clone and a truth value
  abbrev pub offered_operations : ValueKind → TypeOpsDirect
  offered_operations kind.Unit = operations true true false
  offered_operations (kind.Leaf k) = operations (m.can k trait.Default) (m.can k trait.Clone) (m.hook k hook.Truthy)
  offered_operations kind.Struct = operations true true false
  offered_operations kind.Enum = operations false true false
  offered_operations kind.Option = operations true false true
  offered_operations kind.Result = operations false false false
  offered_operations kind.List = operations true false true
  offered_operations kind.BoxedSlice = operations false false false
  offered_operations kind.Array = operations true true true
  offered_operations kind.Map = operations true false false
  offered_operations kind.Set = operations true false false
  offered_operations kind.Box = operations false false false
  offered_operations kind.NoValue = operations false false false

-- the second holds where the first does
abbrev pub implies : Bool → Bool → Bool
implies a b = not a || b

-- a record has no text beyond those offered
abbrev pub has_no_more_texts : VTableDirect → VTableDirect → Bool
has_no_more_texts has offered =
    implies has.display offered.display
    && implies has.debug offered.debug
    && implies has.parse offered.parse
    && implies has.parse_bytes offered.parse_bytes

-- no comparison or hash
abbrev pub has_no_more_comparisons : VTableDirect → VTableDirect → Bool
has_no_more_comparisons has offered =
    implies has.partial_eq offered.partial_eq
    && implies has.partial_cmp offered.partial_cmp
    && implies has.cmp offered.cmp
    && implies has.hash offered.hash

-- no conversion or test; but the conversion into what it wraps may stand in each
abbrev pub has_no_more_conversions : VTableDirect → VTableDirect → Bool
has_no_more_conversions has offered =
    implies has.invariants offered.invariants && implies has.try_from offered.try_from && implies has.try_borrow_inner offered.try_borrow_inner

-- no member
abbrev pub has_no_more : VTableDirect → VTableDirect → Bool
has_no_more has offered = has_no_more_texts has offered && has_no_more_comparisons has offered && has_no_more_conversions has offered

-- the same of operations, where that of dropping may stand in each
abbrev pub has_no_more_operations : TypeOpsDirect → TypeOpsDirect → Bool
has_no_more_operations has offered =
    implies has.default_in_place offered.default_in_place && implies has.clone_into offered.clone_into && implies has.is_truthy offered.is_truthy

module _ {L : Type 0} (m : LeafModel L) where
  -- values have a capability or an operation that isn't offered for their kind
  abbrev pub has_unoffered_of_kind : ValueKind → Ty → VTableDirect → Option TypeOps → Bool
  has_unoffered_of_kind kind.NoValue t capabilities ops = false
  has_unoffered_of_kind k t capabilities ops =
      not (has_no_more capabilities (offered_capabilities m k t)) || option_map_or (λ o. not (has_no_more_operations (operations_of o) (offered_operations m k))) ops false

  -- the record of a shape has a member that isn't offered for the kind of its values
  unfoldable pub has_unoffered_member : Option ShapeId → Shape → Bool
  has_unoffered_member element s = has_unoffered_of_kind (kind_of element s) s.ty (capabilities_of s.vtable) s.type_ops

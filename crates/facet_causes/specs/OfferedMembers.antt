-- A shape has no member that isn't offered for the kind of its values. It holds of each shape of a list that is well formed.
use Rattle.std.specs.Prelude.{◌≡◌, Bool, true, List, Some}
use Rattle.facet_caps.specs.TypeOps.{operations_of}
use Rattle.facet_caps.specs.VTableErased.{capabilities_of}
use Rattle.facet_caps.specs.declared.type_ops.TypeOps.{TypeOps}
use Rattle.facet_caps.specs.declared.type_ops.TypeOpsDirect.{TypeOpsDirect}
use Rattle.facet_caps.specs.declared.vtable.VTableDirect.{VTableDirect}
use Rattle.facet_causes.specs.Reading.{kind_in}
use Rattle.facet_leaf.specs.LeafModel.{LeafModel}
use Rattle.facet_outline.specs.BadLayout.{has_values}
use Rattle.facet_outline.specs.Offered.{offered_capabilities, offered_operations}
use Rattle.facet_shape.specs.declared.shape.Shape.{Shape}

-- a member of the first record is one of the second
abbrev pub Implies : Bool → Bool → Type 0
Implies has offered = has ≡ true → offered ≡ true

-- each member but the conversion into what a value wraps is one of those offered
pub record AreOffered (has offered : VTableDirect) : Type 0 where
  pub display : Implies has.display offered.display
  pub debug : Implies has.debug offered.debug
  pub hash : Implies has.hash offered.hash
  pub invariants : Implies has.invariants offered.invariants
  pub parse : Implies has.parse offered.parse
  pub parse_bytes : Implies has.parse_bytes offered.parse_bytes
  pub try_from : Implies has.try_from offered.try_from
  pub try_borrow_inner : Implies has.try_borrow_inner offered.try_borrow_inner
  pub partial_eq : Implies has.partial_eq offered.partial_eq
  pub partial_cmp : Implies has.partial_cmp offered.partial_cmp
  pub cmp : Implies has.cmp offered.cmp

-- each operation but dropping is one of those offered
pub record OperationsAreOffered (has offered : TypeOpsDirect) : Type 0 where
  pub default_in_place : Implies has.default_in_place offered.default_in_place
  pub clone_into : Implies has.clone_into offered.clone_into
  pub is_truthy : Implies has.is_truthy offered.is_truthy

-- where a shape has values, what its record and its operations have is offered for their kind
pub record MembersAreOffered {L : Type 0} (m : LeafModel L) (shapes : List Shape) (shape : Shape) : Type 0 where
  pub capabilities : has_values (kind_in shapes shape) ≡ true → AreOffered (capabilities_of shape.vtable) (offered_capabilities m (kind_in shapes shape) shape.ty)
  pub operations : has_values (kind_in shapes shape) ≡ true → (ops : TypeOps) → shape.type_ops ≡ Some ops → OperationsAreOffered (operations_of ops) (offered_operations m (kind_in shapes shape))

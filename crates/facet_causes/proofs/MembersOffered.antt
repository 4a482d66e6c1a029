-- A shape that meets no cause has no member that isn't offered for the kind of its values.
use Rattle.std.proofs.Common.{◌≡◌, ℕ, ◌&&◌, Bool, true, false, not, List, All, Option, Some, slice_get, subst}
use Rattle.std.specs.Option.{option_map_or}
use Rattle.std.proofs.lemmas.Bool.{and_parts, false_from_ne_true, false≢true, not-false, or_parts}
use Rattle.facet_caps.specs.TypeOps.{operations_of}
use Rattle.facet_caps.specs.VTableErased.{capabilities_of}
use Rattle.facet_caps.specs.declared.type_ops.TypeOps.{TypeOps}
use Rattle.facet_caps.specs.declared.type_ops.TypeOpsDirect.{TypeOpsDirect}
use Rattle.facet_caps.specs.declared.vtable.VTableDirect.{VTableDirect}
use Rattle.facet_causes.specs.Causes.{IsWellFormed}
use Rattle.facet_causes.specs.OfferedMembers.{AreOffered, MembersAreOffered, OperationsAreOffered}
use Rattle.facet_causes.specs.Reading.{element_of, kind_in}
use Rattle.facet_causes.specs.declared.cause.SealCause.TheVariants as cause
use Rattle.facet_causes.proofs.NoneMet.{each_shape, none_met}
use Rattle.facet_desc.specs.declared.ty.Ty.{Ty}
use Rattle.facet_leaf.specs.LeafModel.{LeafModel}
use Rattle.facet_outline.specs.BadLayout.{has_values}
use Rattle.facet_outline.specs.Offered.{has_no_more, has_no_more_comparisons, has_no_more_conversions, has_no_more_operations, has_no_more_texts, has_unoffered_member, has_unoffered_of_kind, implies, offered_capabilities, offered_operations}
use Rattle.facet_outline.specs.declared.value_kind.ValueKind.{ValueKind}
use Rattle.facet_outline.specs.declared.value_kind.ValueKind.TheVariants as kind
use Rattle.facet_shape.specs.declared.shape.Shape.{Shape}

implied : (a b : Bool) → implies a b ≡ true → a ≡ true → b ≡ true
implied true b is here = is
implied false b is here = absurd (false≢true here)

are_offered : (has offered : VTableDirect) → has_no_more has offered ≡ true → AreOffered has offered
are_offered has offered is =
    let two = and_parts (has_no_more_texts has offered && has_no_more_comparisons has offered) (has_no_more_conversions has offered) is in
    let both = and_parts (has_no_more_texts has offered) (has_no_more_comparisons has offered) two.0 in
    let texts = and_parts _ _ both.0 in
    let first_texts = and_parts _ _ texts.0 in
    let first_text = and_parts _ _ first_texts.0 in
    let comparisons = and_parts _ _ both.1 in
    let first_comparisons = and_parts _ _ comparisons.0 in
    let first_comparison = and_parts _ _ first_comparisons.0 in
    let conversions = and_parts _ _ two.1 in
    let first_conversions = and_parts _ _ conversions.0 in
    record {
      display = implied has.display offered.display first_text.0;
      debug = implied has.debug offered.debug first_text.1;
      hash = implied has.hash offered.hash comparisons.1;
      invariants = implied has.invariants offered.invariants first_conversions.0;
      parse = implied has.parse offered.parse first_texts.1;
      parse_bytes = implied has.parse_bytes offered.parse_bytes texts.1;
      try_from = implied has.try_from offered.try_from first_conversions.1;
      try_borrow_inner = implied has.try_borrow_inner offered.try_borrow_inner conversions.1;
      partial_eq = implied has.partial_eq offered.partial_eq first_comparison.0;
      partial_cmp = implied has.partial_cmp offered.partial_cmp first_comparison.1;
      cmp = implied has.cmp offered.cmp first_comparisons.1;
    }

operations_are_offered : (has offered : TypeOpsDirect) → has_no_more_operations has offered ≡ true → OperationsAreOffered has offered
operations_are_offered has offered is =
    let all = and_parts _ _ is in
    let two = and_parts _ _ all.0 in
    record {
      default_in_place = implied has.default_in_place offered.default_in_place two.0;
      clone_into = implied has.clone_into offered.clone_into two.1;
      is_truthy = implied has.is_truthy offered.is_truthy all.1;
    }

module _ {L : Type 0} (m : LeafModel L) where
  abbrev has_more : ValueKind → Option TypeOps → Bool
  has_more k ops = option_map_or (λ o. not (has_no_more_operations (operations_of o) (offered_operations m k))) ops false

  offered_parts : (k : ValueKind) (t : Ty) (has : VTableDirect) (ops : Option TypeOps) → has_values k ≡ true → has_unoffered_of_kind m k t has ops ≡ false
      → (not (has_no_more has (offered_capabilities m k t)) ≡ false) × (has_more k ops ≡ false)
  offered_parts kind.NoValue t has ops valued none = absurd (false≢true valued)
  offered_parts k t has ops valued none = or_parts (not (has_no_more has (offered_capabilities m k t))) (has_more k ops) none

  module _ (shapes : List Shape) (well : IsWellFormed m shapes) where
    offered_of : (s : ℕ) (shape : Shape) → slice_get shapes s ≡ Some shape → MembersAreOffered m shapes shape
    unfolding has_unoffered_member
    offered_of s shape is =
        let none = false_from_ne_true (has_unoffered_member m (element_of shapes shape.def) shape) (none_met m shapes well cause.CapabilityMissing s shape is) in
        let k = kind_in shapes shape in
        record {
          capabilities = λ valued. are_offered (capabilities_of shape.vtable) (offered_capabilities m k shape.ty) (not-false _ (offered_parts k shape.ty (capabilities_of shape.vtable) shape.type_ops valued none).0);
          operations = λ valued ops has. operations_are_offered (operations_of ops) (offered_operations m k)
              (not-false _ (subst (λ o. has_more k o ≡ false) has (offered_parts k shape.ty (capabilities_of shape.vtable) shape.type_ops valued none).1));
        }

    -- each member of each shape is offered
    pub members_are_offered : All (MembersAreOffered m shapes) shapes
    members_are_offered = each_shape shapes (MembersAreOffered m shapes) offered_of

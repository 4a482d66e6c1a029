-- What can be done with the values of a type, concrete or generic.
use Rattle.std.specs.Prelude.{ℕ, List, codes}
use Rattle.facet_caps.specs.declared.vtable.VTableDirect.{VTableDirect}
use Rattle.facet_caps.specs.declared.vtable_erased.VTableErased.{VTableErased}
use Rattle.facet_caps.specs.declared.vtable_erased.VTableErased.TheVariants as erased

-- what can be done with the values
abbrev pub capabilities_of : VTableErased → VTableDirect
capabilities_of (erased.Direct v) = v
capabilities_of (erased.Indirect v) =
    record {
      display = v.display;
      debug = v.debug;
      hash = v.hash;
      invariants = v.invariants;
      parse = v.parse;
      parse_bytes = v.parse_bytes;
      try_from = v.try_from;
      try_into_inner = v.try_into_inner;
      try_borrow_inner = v.try_borrow_inner;
      partial_eq = v.partial_eq;
      partial_cmp = v.partial_cmp;
      cmp = v.cmp;
    }

-- the debug text names the variant alone
abbrev pub erased_text : VTableErased → List ℕ
erased_text (erased.Direct v) = codes "Direct(\"...\")"
erased_text (erased.Indirect v) = codes "Indirect(\"...\")"

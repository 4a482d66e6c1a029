-- The leaf semantics of `Scalar`.
use Rattle.std.specs.Prelude.{true, Some}
use Rattle.facet_leaf.specs.declared.scalars.scalar.Scalar.{Scalar}
use Rattle.facet_leaf.specs.LeafModel.{LeafModel}
use Rattle.facet_leaf.specs.scalars.Scalar.{scalar_can, scalar_hook, scalar_kind, scalar_same, scalar_order, scalar_writes, scalar_default, scalar_truthy, scalar_converted}
use Rattle.facet_leaf.specs.scalars.ScalarTexts.{scalar_debug, scalar_display, scalar_parsed, scalar_parsed_bytes}

-- a clone is the scalar itself, and no kind has invariants
abbrev pub scalar_model : LeafModel Scalar
scalar_model = record {
  can = scalar_can;
  hook = scalar_hook;
  kind = scalar_kind;
  same = scalar_same;
  partial_order = λ x y. Some (scalar_order x y);
  order = scalar_order;
  writes = scalar_writes;
  debug = scalar_debug;
  display = scalar_display;
  parsed = scalar_parsed;
  parsed_bytes = scalar_parsed_bytes;
  default_of = scalar_default;
  cloned = λ x. x;
  truthy = scalar_truthy;
  holds = λ x. true;
  converted = scalar_converted;
}

-- Leaf semantics: what the methods of a leaf type return.
use Rattle.std.specs.Prelude.{ℕ, Bool, List, Option}
use Rattle.std.specs.declared.cmp.Ordering.{Ordering}
use Rattle.facet_base.specs.declared.characteristic.Characteristic.{Characteristic}
use Rattle.facet_base.specs.declared.scalar_type.ScalarType.{ScalarType}
use Rattle.facet_leaf.specs.declared.conversion.Conversion.{Conversion}
use Rattle.facet_leaf.specs.declared.hook.LeafHook.{LeafHook}
use Rattle.facet_leaf.specs.hashing.HashWrite.{HashWrite}

-- the results, of which the contracts of a leaf type speak
pub record LeafModel (L : Type 0) : Type 0 where
  -- leaves of the kind have the capability, or the hook
  pub can : ScalarType → Characteristic → Bool
  pub hook : ScalarType → LeafHook → Bool
  -- the kind of a leaf
  pub kind : L → ScalarType
  -- equality, the partial order and the total one, of two leaves of one kind
  pub same : L → L → Bool
  pub partial_order : L → L → Option Ordering
  pub order : L → L → Ordering
  -- the hash writes, in order
  pub writes : L → List HashWrite
  -- the bytes of the debug text and of the display text
  pub debug : L → List ℕ
  pub display : L → List ℕ
  -- the leaf of the kind that a text is, or that bytes are, if they are one
  pub parsed : ScalarType → List ℕ → Option L
  pub parsed_bytes : ScalarType → List ℕ → Option L
  -- the default of a kind, where it has one
  pub default_of : ScalarType → Option L
  -- what a clone is, whether a leaf counts as true, and whether it meets the invariants of its type
  pub cloned : L → L
  pub truthy : L → Bool
  pub holds : L → Bool
  -- what a leaf becomes in a kind
  pub converted : ScalarType → L → Conversion L

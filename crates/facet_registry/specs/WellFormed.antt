-- What holds of every registry.
use Rattle.std.specs.Prelude.{◌≡◌, ℕ, ◌^◌, ◌<◌, ◌≤◌, true, List, Some, take, length, slice_get}
use Rattle.facet_base.specs.declared.characteristic.Characteristic.{Characteristic}
use Rattle.facet_base.specs.declared.scalar_type.ScalarType.{ScalarType}
use Rattle.facet_causes.specs.Causes.{IsWellFormed}
use Rattle.facet_causes.specs.Tables.{AreTables}
use Rattle.facet_causes.specs.declared.tables.Tables.{Tables}
use Rattle.facet_leaf.specs.LeafModel.{LeafModel}
use Rattle.facet_shape.specs.declared.shape.Shape.{Shape}
use Rattle.facet_outline.specs.declared.value_kind.ValueKind.TheVariants as kind
use Rattle.facet_registry.specs.Prelude.{prelude}
use Rattle.facet_registry.specs.Registry.{Registry, all_shapes, kind_at, offers, sealed_until, size_at}

-- a shape whose values are leaves has a byte or more for them, and offers only what the leaf semantics has for their kind
pub record HoldsLeaves {L : Type 0} (m : LeafModel L) (shapes : List Shape) (s : ℕ) : Type 0 where
  pub room : (k : ScalarType) → kind_at shapes s ≡ kind.Leaf k → 0 < size_at shapes s
  pub capable : (k : ScalarType) (c : Characteristic) → kind_at shapes s ≡ kind.Leaf k → offers shapes s c ≡ true → m.can k c ≡ true

-- it begins with the prelude, each shape stands under its id, which fits into 32 bits, and no sealed shape meets a cause
pub record IsRegistry {L : Type 0} (m : LeafModel L) (registry : Registry) : Type 0 where
  pub begins : take 16 registry.sealed ≡ (prelude m).sealed
  pub few : length (all_shapes registry) < 2 ^ 32
  pub ids : (s : ℕ) (shape : Shape) → slice_get (all_shapes registry) s ≡ Some shape → shape.id.0 ≡ s
  pub well_formed : IsWellFormed m registry.sealed

-- a list whose first n shapes are sealed is a registry, and the tables are those of its sealed shapes
pub record IsRegistryBeside {L : Type 0} (m : LeafModel L) (n : ℕ) (shapes : List Shape) (tables : Tables) : Type 0 where
  pub within : n ≤ length shapes
  pub is : IsRegistry m (sealed_until n shapes)
  pub right : AreTables (take n shapes) tables

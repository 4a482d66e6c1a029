-- What the structure of a shape's values is, where their kind is known.
use Rattle.std.proofs.Common.{◌≡◌, ℕ, true, List, [], Option, None, Some, slice_get, refl, ap}
use Rattle.std.specs.Option.{option_map_or}
use Rattle.facet_base.specs.declared.scalar_type.ScalarType.{ScalarType}
use Rattle.facet_causes.specs.Reading.{kind_in}
use Rattle.facet_outline.specs.declared.value_kind.ValueKind.{ValueKind}
use Rattle.facet_outline.specs.declared.value_kind.ValueKind.TheVariants as kind
use Rattle.facet_registry.specs.Registry.{kind_at}
use Rattle.facet_shape.specs.declared.shape.Shape.{Shape}
use Rattle.facet_trees.specs.Structure.{Structure, no_values, plain, scalar, structure_at, structure_of_kind}
use Rattle.facet_trees.specs.declared.form.Form.TheVariants as form
use Rattle.facet_values.specs.Scalars.{is_scalar}

-- a kind without parts that isn't one of leaves is the unit
pub unit_of_scalar : (of : ValueKind) → is_scalar of ≡ true → ((k : ScalarType) → of ≡ kind.Leaf k → ⊥) → of ≡ kind.Unit
unit_of_scalar kind.Unit is other = refl
unit_of_scalar (kind.Leaf k) is other = absurd (other k refl)
unit_of_scalar _ is other = absurd (cc)

module _ (shapes : List Shape) where
  -- the structure by kind of a shape that may be there
  abbrev pub structure_found : Option Shape → Structure
  structure_found found = option_map_or (λ shape. structure_of_kind shapes (kind_in shapes shape) shape) found no_values

  abbrev pub kind_found : Option Shape → ValueKind
  kind_found found = option_map_or (kind_in shapes) found kind.NoValue

  leaf_found : (found : Option Shape) (k : ScalarType) → kind_found found ≡ kind.Leaf k → structure_found found ≡ scalar k
  leaf_found None k of = absurd (cc)
  leaf_found (Some shape) k of = ap (λ f. structure_of_kind shapes f shape) of

  unit_found : (found : Option Shape) → kind_found found ≡ kind.Unit → structure_found found ≡ plain form.Unit []
  unit_found None of = absurd (cc)
  unit_found (Some shape) of = ap (λ f. structure_of_kind shapes f shape) of

  nothing_found : (found : Option Shape) → kind_found found ≡ kind.NoValue → structure_found found ≡ no_values
  nothing_found None of = refl
  nothing_found (Some shape) of = ap (λ f. structure_of_kind shapes f shape) of

  pub structure_of_leaf : (s : ℕ) (k : ScalarType) → kind_at shapes s ≡ kind.Leaf k → structure_at shapes s ≡ scalar k
  unfolding structure_at
  structure_of_leaf s k of = leaf_found (slice_get shapes s) k of

  pub structure_of_unit : (s : ℕ) → kind_at shapes s ≡ kind.Unit → structure_at shapes s ≡ plain form.Unit []
  unfolding structure_at
  structure_of_unit s of = unit_found (slice_get shapes s) of

  pub structure_without_values : (s : ℕ) → kind_at shapes s ≡ kind.NoValue → structure_at shapes s ≡ no_values
  unfolding structure_at
  structure_without_values s of = nothing_found (slice_get shapes s) of

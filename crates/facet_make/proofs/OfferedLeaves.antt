-- Leaves have what their shape offers.
use Rattle.std.proofs.Common.{◌≡◌, ℕ, true, List, Option, None, Some, slice_get, refl, ap, ◌∙◌}
use Rattle.std.specs.Option.{option_map_or}
use Rattle.std.proofs.lemmas.Option.{slice_get_within}
use Rattle.facet_base.specs.declared.characteristic.Characteristic.{Characteristic}
use Rattle.facet_base.specs.declared.scalar_type.ScalarType.{ScalarType}
use Rattle.facet_causes.specs.Causes.{IsWellFormed}
use Rattle.facet_causes.specs.Reading.{kind_in}
use Rattle.facet_leaf.specs.LeafModel.{LeafModel}
use Rattle.facet_outline.specs.declared.value_kind.ValueKind.{ValueKind}
use Rattle.facet_outline.specs.declared.value_kind.ValueKind.TheVariants as kind
use Rattle.facet_registry.proofs.SealedLeaves.{sealed_leaves}
use Rattle.facet_registry.specs.Registry.{kind_at, offers}
use Rattle.facet_shape.specs.declared.shape.Shape.{Shape}
use Rattle.facet_trees.specs.Structure.{no_values, scalar, structure_at, structure_of_kind}

kind_of_leaf : (shapes : List Shape) (k : ValueKind) (shape : Shape) (l : ScalarType) → structure_of_kind shapes k shape ≡ scalar l → k ≡ kind.Leaf l
kind_of_leaf shapes (kind.Leaf _) shape l is = cc
kind_of_leaf shapes kind.Unit shape l is = absurd (cc)
kind_of_leaf shapes kind.Struct shape l is = absurd (cc)
kind_of_leaf shapes kind.Array shape l is = absurd (cc)
kind_of_leaf shapes kind.Enum shape l is = absurd (cc)
kind_of_leaf shapes kind.Option shape l is = absurd (cc)
kind_of_leaf shapes kind.Result shape l is = absurd (cc)
kind_of_leaf shapes kind.List shape l is = absurd (cc)
kind_of_leaf shapes kind.BoxedSlice shape l is = absurd (cc)
kind_of_leaf shapes kind.Map shape l is = absurd (cc)
kind_of_leaf shapes kind.Set shape l is = absurd (cc)
kind_of_leaf shapes kind.Box shape l is = absurd (cc)
kind_of_leaf shapes kind.NoValue shape l is = absurd (cc)

module _ {L : Type 0} (m : LeafModel L) (shapes : List Shape) (well : IsWellFormed m shapes) where
  -- leaves have the capabilities and the operations that their shape offers
  pub leaves_can : (s : ℕ) (k : ScalarType) → structure_at shapes s ≡ scalar k → (c : Characteristic) → offers shapes s c ≡ true → m.can k c ≡ true
  unfolding structure_at
  leaves_can s k of c offered = go (slice_get shapes s) refl of
    where
      go : (o : Option Shape) → slice_get shapes s ≡ o → option_map_or (λ shape. structure_of_kind shapes (kind_in shapes shape) shape) o no_values ≡ scalar k → m.can k c ≡ true
      go None here of = absurd (cc)
      go (Some shape) here of =
          let kind_is : kind_at shapes s ≡ kind.Leaf k = ap (λ o. option_map_or (kind_in shapes) o kind.NoValue) here ∙ kind_of_leaf shapes (kind_in shapes shape) shape k of in
          (sealed_leaves m shapes well s (slice_get_within shapes s shape here)).capable k c kind_is offered

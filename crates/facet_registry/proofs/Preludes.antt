-- The registry that has the prelude alone.
use Rattle.std.proofs.Common.{◌≡◌, ◌≢◌, ℕ, zero, suc, ◌+◌, ◌<◌, ◌≤◌, true, List, [], ◌∷◌, ◌++◌, length, get_or, drop, take, slice_get, unwrap_or, Option, None, Some, refl, sym, ap, ◌∙◌, subst, arith}
use Rattle.std.proofs.lemmas.List.{append-nil, append_assoc, drop_all, drop_more, length-append, nil_from_length, take_all}
use Rattle.facet_base.specs.declared.characteristic.Characteristic.{Characteristic}
use Rattle.facet_base.specs.declared.characteristic.Characteristic.TheVariants as trait
use Rattle.facet_base.specs.declared.layout.ShapeId.{ShapeId}
use Rattle.facet_base.specs.declared.scalar_type.ScalarType.{ScalarType}
use Rattle.facet_base.specs.declared.scalar_type.ScalarType.TheVariants as scalar
use Rattle.facet_def.specs.declared.def.Def.TheVariants as def
use Rattle.facet_causes.specs.Tables.{AreTables}
use Rattle.facet_causes.specs.declared.tables.Tables.{Tables}
use Rattle.facet_leaf.specs.LeafLaws.{LeafLaws}
use Rattle.facet_leaf.specs.LeafModel.{LeafModel}
use Rattle.facet_shape.specs.ShapeBuilder.{fresh_shape}
use Rattle.facet_shape.specs.Capability.{can}
use Rattle.facet_base.specs.ShapeLayout.{size_in_bytes}
use Rattle.facet_shape.specs.declared.shape.Shape.{Shape}
use Rattle.facet_outline.specs.declared.value_kind.ValueKind.TheVariants as kind
use Rattle.facet_registry.specs.Prelude.{prelude, prelude_kinds, scalar_layout, scalar_shape, scalar_shapes, scalar_ty}
use Rattle.facet_registry.specs.Registry.{Registry, all_shapes, sealed_until}
use Rattle.facet_outline.specs.ValueKind.{kind_by_scalar}
use Rattle.facet_registry.specs.WellFormed.{IsRegistry, IsRegistryBeside}
use Rattle.facet_registry.proofs.Drafts.{least_sealed, registry_of}
use Rattle.facet_registry.proofs.WellFormedPrelude.{prelude_well_formed}

module _ {L : Type 0} (m : LeafModel L) where
  id_of_scalar : (id : ℕ) (k : ScalarType) → (scalar_shape m id k).id.0 ≡ id
  unfolding scalar_shape
  id_of_scalar id k = refl

  ids_of_scalars : (id : ℕ) (kinds : List ScalarType) (s : ℕ) (shape : Shape) → slice_get (scalar_shapes m id kinds) s ≡ Some shape → shape.id.0 ≡ id + s
  ids_of_scalars id [] zero shape here = absurd (cc)
  ids_of_scalars id [] (suc s) shape here = absurd (cc)
  ids_of_scalars id (k ∷ kinds) zero shape here =
      let same : shape ≡ scalar_shape m id k = cc in
      omega (arith, ap (λ x. x.id.0) same ∙ id_of_scalar id k)
  ids_of_scalars id (k ∷ kinds) (suc s) shape here = omega (arith, ids_of_scalars (id + 1) kinds s shape here)

  pub registry_prelude : LeafLaws m → IsRegistry m (prelude m)
  unfolding prelude
  registry_prelude laws =
      record {
        begins = refl;
        few = omega arith;
        ids = λ s shape here. omega (arith, ids_of_scalars 0 prelude_kinds s shape here);
        well_formed = prelude_well_formed m laws;
      }

  -- one shape more than those of the first kinds leaves those of the others
  pub scalars_more : (so_far now : List Shape) (kinds : List ScalarType) (i : ℕ) (d : ScalarType) (all : List Shape) → i < length kinds
      → length so_far ≡ i → so_far ++ scalar_shapes m i (drop i kinds) ≡ all → now ≡ so_far ++ scalar_shape m (length so_far) (get_or kinds i d) ∷ []
      → (length now ≡ i + 1) × (now ++ scalar_shapes m (i + 1) (drop (i + 1) kinds) ≡ all)
  scalars_more so_far now kinds i d all below count rest is =
      let one = scalar_shape m i (get_or kinds i d) ∷ [] in
      let first : now ≡ so_far ++ one = is ∙ ap (λ n. so_far ++ scalar_shape m n (get_or kinds i d) ∷ []) count in
      let left = scalar_shapes m (i + 1) (drop (i + 1) kinds) in (
        omega (arith, count, ap length first, length-append so_far one),
        ap (λ xs. xs ++ left) first ∙ append_assoc so_far one left ∙ sym (ap (λ ks. so_far ++ scalar_shapes m i ks) (drop_more kinds i d below)) ∙ rest,
      )

  -- where no kind is left, all shapes are there
  pub scalars_done : (so_far : List Shape) (kinds : List ScalarType) (i : ℕ) (all : List Shape) → length kinds ≤ i → so_far ++ scalar_shapes m i (drop i kinds) ≡ all → so_far ≡ all
  scalars_done so_far kinds i all beyond rest = sym (append-nil so_far) ∙ sym (ap (λ ks. so_far ++ scalar_shapes m i ks) (drop_all i kinds beyond)) ∙ rest

  prelude_sealed : (prelude m).sealed ≡ scalar_shapes m 0 prelude_kinds
  unfolding prelude
  prelude_sealed = refl

  prelude_of : (registry : Registry) → registry.sealed ≡ scalar_shapes m 0 prelude_kinds → registry.drafts ≡ [] → registry ≡ prelude m
  unfolding prelude
  prelude_of registry sealed none = λ i. registry_of (sealed i) (none i)

  -- the sixteen shapes, all sealed
  pub is_prelude_by : (shapes : List Shape) → shapes ≡ scalar_shapes m 0 prelude_kinds → sealed_until 16 shapes ≡ prelude m
  unfolding prelude
  is_prelude_by shapes same = ap (sealed_until 16) same

  pub is_beside : LeafLaws m → (shapes : List Shape) (tables : Tables) → shapes ≡ scalar_shapes m 0 prelude_kinds → AreTables shapes tables → IsRegistryBeside m 16 shapes tables
  is_beside laws shapes tables same right =
      let count : length shapes ≡ 16 = ap length same in
      record {
        within = omega (arith, count);
        is = subst (IsRegistry m) (sym (is_prelude_by shapes same)) (registry_prelude laws);
        right = subst (λ xs. AreTables xs tables) (sym (take_all 16 shapes (omega (arith, count)))) right;
      }

  -- a registry with no shape more is the prelude
  pub prelude_alone : (registry : Registry) → IsRegistry m registry → length (all_shapes registry) ≡ 16 → registry ≡ prelude m
  prelude_alone registry is few =
      let least = least_sealed m registry is in
      let count = length-append registry.sealed registry.drafts in
      let all = take_all 16 registry.sealed (omega (arith, count, few)) in
      prelude_of registry (sym all ∙ is.begins ∙ prelude_sealed) (nil_from_length registry.drafts (omega (arith, least, count, few)))

  pub length_prelude : (registry : Registry) → registry ≡ prelude m → length (all_shapes registry) ≡ 16
  unfolding prelude
  length_prelude registry same = ap (λ r. length (all_shapes r)) same

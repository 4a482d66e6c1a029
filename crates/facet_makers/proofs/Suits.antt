-- The shapes that the makers draft, and their kinds.
use Rattle.std.proofs.Common.{◌≡◌, ℕ, ◌==◌, List, None, Some, true, refl, rules}
use Rattle.facet_base.specs.declared.layout.ShapeId.{ShapeId}
use Rattle.facet_base.specs.declared.layout.ShapeLayout.{ShapeLayout}
use Rattle.facet_desc.specs.Field.{fresh_field}
use Rattle.facet_desc.specs.Variant.{fresh_variant}
use Rattle.facet_desc.specs.StructType.{unit_struct}
use Rattle.facet_leaf.specs.LeafModel.{LeafModel}
use Rattle.facet_makers.specs.Generic.{built_in, in_module, with_length, with_parameter}
use Rattle.facet_makers.specs.Makers.{array_shape, box_shape, boxed_slice_shape, list_shape, map_shape, option_shape, result_shape, set_shape, slice_shape, tuple_of, tuple_shape}
use Rattle.facet_makers.specs.Offering.{with_record}
use Rattle.facet_makers.specs.SuitsKind.{SuitsKind}
use Rattle.facet_makers.specs.Types.{option_type}
use Rattle.facet_outline.specs.Layout.{part_layout}
use Rattle.facet_outline.specs.Mismatch.{is_mismatched}
use Rattle.facet_outline.specs.Offered.{has_unoffered_member}
use Rattle.facet_outline.specs.declared.value_kind.ValueKind.TheVariants as kind
use Rattle.facet_shape.specs.ShapeBuilder.{fresh_shape}

same : (n : ℕ) → (n == n) ≡ true
same n = search rules

module _ {L : Type 0} (m : LeafModel L) (layouts : ShapeId → ShapeLayout) where
  pub option_suits : (t : ShapeId) → SuitsKind m layouts None kind.Option (option_shape m t (part_layout (layouts t)))
  unfolding option_shape option_type with_record with_parameter in_module fresh_shape fresh_variant fresh_field unit_struct is_mismatched has_unoffered_member
  option_suits t = record { kind = refl; fits = simp same; offers = refl }

  pub result_suits : (t e : ShapeId) → SuitsKind m layouts None kind.Result (result_shape m t e (part_layout (layouts t)) (part_layout (layouts e)))
  unfolding result_shape with_record with_parameter in_module fresh_shape is_mismatched has_unoffered_member
  result_suits t e = record { kind = refl; fits = simp same; offers = refl }

  pub list_suits : (t : ShapeId) → SuitsKind m layouts None kind.List (list_shape m t)
  unfolding list_shape with_record with_parameter in_module fresh_shape is_mismatched has_unoffered_member
  list_suits t = record { kind = refl; fits = simp same; offers = refl }

  pub map_suits : (k v : ShapeId) → SuitsKind m layouts None kind.Map (map_shape m k v (part_layout (layouts k)) (part_layout (layouts v)))
  unfolding map_shape with_record with_parameter in_module fresh_shape is_mismatched has_unoffered_member
  map_suits k v = record { kind = refl; fits = simp same; offers = refl }

  pub set_suits : (t : ShapeId) → SuitsKind m layouts None kind.Set (set_shape m t)
  unfolding set_shape with_record with_parameter in_module fresh_shape is_mismatched has_unoffered_member
  set_suits t = record { kind = refl; fits = simp same; offers = refl }

  pub array_suits : (t : ShapeId) (n : ℕ) → SuitsKind m layouts None kind.Array (array_shape m t n (part_layout (layouts t)))
  unfolding array_shape with_record with_length with_parameter built_in fresh_shape is_mismatched has_unoffered_member
  array_suits t n = record { kind = refl; fits = simp same; offers = refl }

  pub slice_suits : (t : ShapeId) → SuitsKind m layouts None kind.NoValue (slice_shape m t)
  unfolding slice_shape with_record with_parameter built_in fresh_shape is_mismatched has_unoffered_member
  slice_suits t = record { kind = refl; fits = simp same; offers = refl }

  pub box_suits : (t : ShapeId) → SuitsKind m layouts None kind.Box (box_shape m t)
  unfolding box_shape with_record with_parameter in_module fresh_shape is_mismatched has_unoffered_member
  box_suits t = record { kind = refl; fits = simp same; offers = refl }

  pub boxed_slice_suits : (t element : ShapeId) → SuitsKind m layouts (Some element) kind.BoxedSlice (boxed_slice_shape m t)
  unfolding boxed_slice_shape with_record with_parameter in_module fresh_shape is_mismatched has_unoffered_member
  boxed_slice_suits t element = record { kind = refl; fits = simp same; offers = refl }

  pub tuple_suits : (ids : List ShapeId) → SuitsKind m layouts None kind.Struct (tuple_shape (λ t. part_layout (layouts t)) ids)
  unfolding tuple_of with_record built_in fresh_shape is_mismatched has_unoffered_member
  tuple_suits ids = record { kind = refl; fits = refl; offers = refl }

-- The keys of the shape under an id.
use Rattle.std.proofs.Common.{◌≡◌, ℕ, List, [], Any, Option, None, Some, slice_get, sym, ap, ◌∙◌, arith}
use Rattle.std.specs.Option.{option_map_or, option_to_list}
use Rattle.facet_causes.specs.KeyNotOrd.{HasKeyWithoutOrder, keys_of}
use Rattle.facet_causes.specs.Reading.{OfShape, element_of, indices, kind_in, lacks_order, parts_at}
use Rattle.facet_graph.specs.Reach.{ReachesBad}
use Rattle.facet_outline.specs.Part.{key_of_kind}
use Rattle.facet_outline.proofs.SameItems.{kind_same}
use Rattle.facet_shape.specs.WithoutSpare.{shape_without_spare}
use Rattle.facet_shape.specs.declared.shape.Shape.{Shape}

pub keys_found : (xs : List Shape) (s : ℕ) (shape : Shape) → slice_get xs s ≡ Some (shape_without_spare shape) → option_to_list (key_of_kind (kind_in xs shape) shape.def) ≡ option_map_or (keys_of xs) (slice_get xs s) []
keys_found xs s shape is =
    ap (λ k. option_to_list (key_of_kind k shape.def)) (sym (kind_same (element_of xs shape.def) shape)) ∙ ap (λ o. option_map_or (keys_of xs) o []) (sym is)

module _ (xs : List Shape) where
  pub keys_meet : (o : Option Shape) → Any (ReachesBad (parts_at xs) (lacks_order xs)) (indices (option_map_or (keys_of xs) o [])) → OfShape (HasKeyWithoutOrder xs) o
  keys_meet None any = absurd (omega (arith, any.2))
  keys_meet (Some shape) any = any

  pub meet_keys : (o : Option Shape) → OfShape (HasKeyWithoutOrder xs) o → Any (ReachesBad (parts_at xs) (lacks_order xs)) (indices (option_map_or (keys_of xs) o []))
  meet_keys None none = absurd none
  meet_keys (Some shape) any = any

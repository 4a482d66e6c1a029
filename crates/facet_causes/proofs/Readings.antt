-- What is read off the shape under an id, by the shape that was found there.
use Rattle.std.proofs.Common.{◌≡◌, ℕ, true, false, not, ◌&&◌, List, [], Option, None, Some, Bor, slice_get, option_map, sym, ap, ◌∙◌}
use Rattle.std.specs.Option.{option_copied, option_map_or}
use Rattle.facet_causes.specs.Reading.{before_of, element_of, has_order, inline_of, lacks_order, name_children_of, own_name_bytes_of, parts_of, repetition_of}
use Rattle.facet_base.specs.declared.characteristic.Characteristic.TheVariants as trait
use Rattle.facet_outline.specs.BadLayout.{has_values}
use Rattle.facet_outline.specs.Part.{inline_parts, parts, repetition}
use Rattle.facet_outline.specs.References.{height_references}
use Rattle.facet_outline.proofs.SameItems.{height_references_same, inline_parts_same, kind_same, parts_same}
use Rattle.facet_shape.specs.Capability.{can}
use Rattle.facet_shape.specs.WithoutSpare.{shape_without_spare}
use Rattle.facet_shape.specs.declared.shape.Shape.{Shape}
use Rattle.facet_type_name.specs.Name.{name_children, own_name_bytes}
use Rattle.facet_type_name.proofs.SameNames.{children_same, own_same}

pub found : (xs : List Shape) (s : ℕ) (r : Option (Bor Shape)) (shape : Bor Shape) → option_map shape_without_spare (option_copied r) ≡ slice_get xs s → r ≡ Some shape → slice_get xs s ≡ Some (shape_without_spare shape.now)
found xs s r shape got is = sym got ∙ ap (λ o. option_map shape_without_spare (option_copied o)) is

pub missing : (xs : List Shape) (s : ℕ) (r : Option (Bor Shape)) → option_map shape_without_spare (option_copied r) ≡ slice_get xs s → r ≡ None → slice_get xs s ≡ None
missing xs s r got is = sym got ∙ ap (λ o. option_map shape_without_spare (option_copied o)) is

module _ (xs : List Shape) (s : ℕ) (shape : Shape) (is : slice_get xs s ≡ Some (shape_without_spare shape)) where
  pub inline_found : inline_parts (element_of xs shape.def) shape ≡ inline_of xs s
  unfolding inline_of
  inline_found = sym (inline_parts_same (element_of xs shape.def) shape) ∙ ap (λ o. option_map_or (λ t. inline_parts (element_of xs t.def) t) o []) (sym is)

  pub parts_found : parts (element_of xs shape.def) shape ≡ parts_of xs s
  unfolding parts_of
  parts_found = sym (parts_same (element_of xs shape.def) shape) ∙ ap (λ o. option_map_or (λ t. parts (element_of xs t.def) t) o []) (sym is)

  pub before_found : height_references shape ≡ before_of xs s
  unfolding before_of
  before_found = sym (height_references_same shape) ∙ ap (λ o. option_map_or height_references o []) (sym is)

  pub children_found : name_children shape ≡ name_children_of xs s
  unfolding name_children_of
  children_found = sym (children_same shape) ∙ ap (λ o. option_map_or name_children o []) (sym is)

  pub own_found : own_name_bytes shape ≡ own_name_bytes_of xs s
  unfolding own_name_bytes_of
  own_found = sym (own_same shape) ∙ ap (λ o. option_map_or own_name_bytes o 0) (sym is)

  pub repetition_found : repetition shape.def ≡ repetition_of xs s
  unfolding repetition_of
  repetition_found = ap (λ o. option_map_or (λ t. repetition t.def) o 1) (sym is)

  pub order_found : not (has_order xs shape) ≡ lacks_order xs s
  unfolding lacks_order
  order_found =
      ap (λ k. not (has_values k && can shape trait.Ord)) (sym (kind_same (element_of xs shape.def) shape))
      ∙ ap (λ o. not (option_map_or (has_order xs) o false)) (sym is)

module _ (xs : List Shape) (s : ℕ) (is : slice_get xs s ≡ None) where
  pub inline_missing : [] ≡ inline_of xs s
  unfolding inline_of
  inline_missing = ap (λ o. option_map_or (λ t. inline_parts (element_of xs t.def) t) o []) (sym is)

  pub parts_missing : [] ≡ parts_of xs s
  unfolding parts_of
  parts_missing = ap (λ o. option_map_or (λ t. parts (element_of xs t.def) t) o []) (sym is)

  pub before_missing : [] ≡ before_of xs s
  unfolding before_of
  before_missing = ap (λ o. option_map_or height_references o []) (sym is)

  pub children_missing : [] ≡ name_children_of xs s
  unfolding name_children_of
  children_missing = ap (λ o. option_map_or name_children o []) (sym is)

  pub own_missing : 0 ≡ own_name_bytes_of xs s
  unfolding own_name_bytes_of
  own_missing = ap (λ o. option_map_or own_name_bytes o 0) (sym is)

  pub repetition_missing : 1 ≡ repetition_of xs s
  unfolding repetition_of
  repetition_missing = ap (λ o. option_map_or (λ t. repetition t.def) o 1) (sym is)

  pub order_missing : true ≡ lacks_order xs s
  unfolding lacks_order
  order_missing = ap (λ o. not (option_map_or (has_order xs) o false)) (sym is)

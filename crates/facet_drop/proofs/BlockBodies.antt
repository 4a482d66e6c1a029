-- What each block of a sequence holds, as the code finds it by the definition of the shape.
use Rattle.std.proofs.Common.{◌≡◌, ℕ, List, [], Option, None, Some, refl, sym, ap, ◌∙◌}
use Rattle.std.specs.Option.{option_map_or, option_to_list}
use Rattle.facet_base.specs.declared.layout.ShapeId.{ShapeId}
use Rattle.facet_block.specs.Block.{empty_block}
use Rattle.facet_causes.specs.Arrangement.{single}
use Rattle.facet_causes.specs.Reading.{element_of}
use Rattle.facet_def.specs.declared.def.Def.{Def}
use Rattle.facet_def.specs.declared.def.Def.TheVariants as def
use Rattle.facet_drop.specs.Makeup.{block_body_at, block_body_by}
use Rattle.facet_outline.specs.References.{parts_of_def}
use Rattle.facet_outline.specs.declared.value_kind.ValueKind.{ValueKind}
use Rattle.facet_outline.specs.declared.value_kind.ValueKind.TheVariants as kind
use Rattle.facet_registry.specs.Offsets.{pair_value_offset_at, pair_value_offset_by_def}
use Rattle.facet_shape.specs.WithoutSpare.{shape_without_spare}
use Rattle.facet_shape.specs.declared.shape.Shape.{Shape}
use Rattle.facet_trees.specs.Structure.{block_body, structure_of_kind}
use Rattle.facet_values.specs.Place.{Place, place_in}
use Rattle.facet_walk.proofs.SeenKinds.{HasElements, IsOfKind, elements_here, list_element, parts_here, structure_here}
use Rattle.facet_walk.specs.Look.{element_in, pair_in}

-- what a set or a box consists of
set_element : (d : Def) → HasElements kind.Set d → parts_of_def d ≡ option_to_list (element_in d)
set_element (def.Set d) has = refl
set_element _ has = absurd has

box_element : (d : Def) → HasElements kind.Box d → parts_of_def d ≡ option_to_list (element_in d)
box_element (def.Pointer d) has = refl
box_element _ has = absurd has

module _ (shapes : List Shape) where
  map_pair : (d : Def) → HasElements kind.Map d → block_body shapes (parts_of_def d) ≡ pair_in d (pair_value_offset_by_def shapes d)
  map_pair (def.Map d) has = refl
  map_pair _ has = absurd has

  body_of_one : (element : Option ShapeId) → block_body shapes (option_to_list element) ≡ option_map_or (λ id. single id 0) element []
  body_of_one (Some id) = refl
  body_of_one None = refl

  none_held_by : (k : ValueKind) (shape : Shape) → (k ≡ kind.List → ⊥) → (k ≡ kind.Set → ⊥) → (k ≡ kind.Box → ⊥) → (k ≡ kind.BoxedSlice → ⊥) → (k ≡ kind.Map → ⊥)
      → [] ≡ block_body_by shapes (structure_of_kind shapes k shape)
  none_held_by kind.List shape list set box slice map = absurd (list refl)
  none_held_by kind.Set shape list set box slice map = absurd (set refl)
  none_held_by kind.Box shape list set box slice map = absurd (box refl)
  none_held_by kind.BoxedSlice shape list set box slice map = absurd (slice refl)
  none_held_by kind.Map shape list set box slice map = absurd (map refl)
  none_held_by kind.Unit shape list set box slice map = refl
  none_held_by (kind.Leaf k) shape list set box slice map = refl
  none_held_by kind.Struct shape list set box slice map = refl
  none_held_by kind.Enum shape list set box slice map = refl
  none_held_by kind.Option shape list set box slice map = refl
  none_held_by kind.Result shape list set box slice map = refl
  none_held_by kind.Array shape list set box slice map = refl
  none_held_by kind.NoValue shape list set box slice map = refl

  module _ (s : ℕ) (shape : Shape) where
    -- a place of the shape, for the lemmas that speak of one
    some_place : Place (Unit {0})
    some_place = place_in s (empty_block 0) 0

    body_here : (k : ValueKind) → IsOfKind shapes s k shape → block_body_at shapes s ≡ block_body_by shapes (structure_of_kind shapes k (shape_without_spare shape))
    unfolding some_place
    body_here k is = ap (block_body_by shapes) (structure_here shapes some_place k shape is)

    pub list_body : IsOfKind shapes s kind.List shape → option_map_or (λ id. single id 0) (element_in shape.def) [] ≡ block_body_at shapes s
    unfolding some_place
    list_body is =
        sym (body_here kind.List is
        ∙ ap (block_body shapes) (parts_here shapes some_place kind.List shape is ∙ list_element shape.def (elements_here shapes some_place kind.List shape is))
        ∙ body_of_one (element_in shape.def))

    pub set_body : IsOfKind shapes s kind.Set shape → option_map_or (λ id. single id 0) (element_in shape.def) [] ≡ block_body_at shapes s
    unfolding some_place
    set_body is =
        sym (body_here kind.Set is
        ∙ ap (block_body shapes) (parts_here shapes some_place kind.Set shape is ∙ set_element shape.def (elements_here shapes some_place kind.Set shape is))
        ∙ body_of_one (element_in shape.def))

    pub box_body : IsOfKind shapes s kind.Box shape → option_map_or (λ id. single id 0) (element_in shape.def) [] ≡ block_body_at shapes s
    unfolding some_place
    box_body is =
        sym (body_here kind.Box is
        ∙ ap (block_body shapes) (parts_here shapes some_place kind.Box shape is ∙ box_element shape.def (elements_here shapes some_place kind.Box shape is))
        ∙ body_of_one (element_in shape.def))

    pub slice_body : IsOfKind shapes s kind.BoxedSlice shape → option_map_or (λ id. single id 0) (element_of shapes shape.def) [] ≡ block_body_at shapes s
    unfolding some_place
    slice_body is =
        sym (body_here kind.BoxedSlice is
        ∙ ap (block_body shapes) (parts_here shapes some_place kind.BoxedSlice shape is)
        ∙ body_of_one (element_of shapes shape.def))

    pub map_body : IsOfKind shapes s kind.Map shape → pair_in shape.def (pair_value_offset_at shapes s) ≡ block_body_at shapes s
    unfolding some_place
    map_body is =
        sym (body_here kind.Map is
        ∙ ap (block_body shapes) (parts_here shapes some_place kind.Map shape is)
        ∙ map_pair shape.def (elements_here shapes some_place kind.Map shape is)
        ∙ ap (pair_in shape.def) (sym (ap (λ o. option_map_or (λ (t : Shape). pair_value_offset_by_def shapes t.def) o 0) is.here)))

    -- values of other kinds have no blocks
    pub none_held : (k : ValueKind) → IsOfKind shapes s k shape → (k ≡ kind.List → ⊥) → (k ≡ kind.Set → ⊥) → (k ≡ kind.Box → ⊥) → (k ≡ kind.BoxedSlice → ⊥) → (k ≡ kind.Map → ⊥)
        → [] ≡ block_body_at shapes s
    none_held k is list set box slice map = none_held_by k (shape_without_spare shape) list set box slice map ∙ sym (body_here k is)

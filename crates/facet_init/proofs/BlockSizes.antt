-- How many bytes the blocks of a list, a map, a set or a box have, by the definition of its shape.
use Rattle.std.proofs.Common.{◌≡◌, ◌⊎◌, ℕ, ◌<◌, All, List, [], ◌∷◌, ◌++◌, None, Some, inl, inr, length, slice_get, refl, sym, ap, ◌∙◌, subst}
use Rattle.std.specs.Option.{option_map_or, option_to_list}
use Rattle.std.proofs.lemmas.List.Elements.{All-head, All-tail}
use Rattle.facet_base.proofs.Lists.{slice_get_front}
use Rattle.facet_base.specs.declared.layout.ShapeId.{ShapeId}
use Rattle.facet_base.specs.declared.layout.ShapeLayout.TheVariants as layout
use Rattle.facet_block.specs.Block.{empty_block}
use Rattle.facet_causes.specs.Arrangement.{part_at}
use Rattle.facet_causes.specs.Causes.{IsWellFormed}
use Rattle.facet_contain.proofs.ContainerKinds.{box_is}
use Rattle.facet_def.specs.declared.def.Def.{Def}
use Rattle.facet_def.specs.declared.def.Def.TheVariants as def
use Rattle.facet_def.specs.declared.map_def.MapDef.{MapDef}
use Rattle.facet_init.specs.Blocks.{HasBlocks}
use Rattle.facet_leaf.specs.LeafModel.{LeafModel}
use Rattle.facet_outline.specs.Layout.{pair_layout, part_layout, value_offset}
use Rattle.facet_outline.specs.References.{parts_of_def}
use Rattle.facet_outline.specs.declared.placed_fields.PlacedField.{PlacedField}
use Rattle.facet_outline.specs.declared.value_kind.ValueKind.{ValueKind}
use Rattle.facet_outline.specs.declared.value_kind.ValueKind.TheVariants as kind
use Rattle.facet_registry.specs.Registry.{kind_at}
use Rattle.facet_shape.specs.WithoutSpare.{shape_without_spare}
use Rattle.facet_shape.specs.declared.shape.Shape.{Shape}
use Rattle.facet_trees.specs.Structure.{block_body, block_size, sequence, structure_at}
use Rattle.facet_trees.specs.declared.form.Form.{Form}
use Rattle.facet_trees.specs.declared.form.Form.TheVariants as form
use Rattle.facet_values.proofs.LaidOut.{laid_out}
use Rattle.facet_values.specs.Laid.{HoldsApart}
use Rattle.facet_values.specs.Place.{Place, start_of}
use Rattle.facet_walk.proofs.SeenKinds.{HasElements, IsOfKind, elements_here, parts_here, structure_here}
use Rattle.facet_walk.specs.Look.{element_in}

-- the parts of what isn't a map are its one element
one_part : (k : ValueKind) (d : Def) → HasBlocks k → HasElements k d → ((x : MapDef) → d ≡ def.Map x → ⊥) → parts_of_def d ≡ option_to_list (element_in d)
one_part kind.List (def.List d) blocks has other = refl
one_part kind.List _ blocks has other = absurd has
one_part kind.Set (def.Set d) blocks has other = refl
one_part kind.Set _ blocks has other = absurd has
one_part kind.Box (def.Pointer d) blocks has other = refl
one_part kind.Box _ blocks has other = absurd has
one_part kind.Map (def.Map d) blocks has other = absurd (other d refl)
one_part kind.Map _ blocks has other = absurd has
one_part _ d blocks has other = absurd blocks

-- the kinds of the values that have blocks
pub growing_blocks : (k : ValueKind) → (k ≡ kind.List) ⊎ ((k ≡ kind.Map) ⊎ (k ≡ kind.Set)) → HasBlocks k
growing_blocks k (inl list) = subst HasBlocks (sym list) tt
growing_blocks k (inr (inl map)) = subst HasBlocks (sym map) tt
growing_blocks k (inr (inr set)) = subst HasBlocks (sym set) tt

pub box_blocks : (k : ValueKind) → k ≡ kind.Box → HasBlocks k
box_blocks k box = subst HasBlocks (sym box) tt

module _ {L : Type 0} (m : LeafModel L) (shapes more : List Shape) (well : IsWellFormed m shapes) (s : ℕ) (below : s < length shapes) (shape : Shape) (here : slice_get shapes s ≡ Some (shape_without_spare shape))
    (blocks : HasBlocks (kind_at shapes s)) where
  abbrev place : Place L
  place = start_of s (empty_block 0)

  abbrev Consists : ValueKind → Type 0
  Consists k = (form : Form) × (structure_at shapes s ≡ sequence form (parts_of_def shape.def))

  consists_by : (k : ValueKind) → HasBlocks k → kind_at shapes s ≡ k → Consists k
  consists_by kind.List has of =
      let is : IsOfKind shapes s kind.List shape = record { here = here; kind = of } in (form.List, structure_here shapes place kind.List shape is ∙ ap (sequence form.List) (parts_here shapes place kind.List shape is))
  consists_by kind.Map has of =
      let is : IsOfKind shapes s kind.Map shape = record { here = here; kind = of } in (form.Map, structure_here shapes place kind.Map shape is ∙ ap (sequence form.Map) (parts_here shapes place kind.Map shape is))
  consists_by kind.Set has of =
      let is : IsOfKind shapes s kind.Set shape = record { here = here; kind = of } in (form.Set, structure_here shapes place kind.Set shape is ∙ ap (sequence form.Set) (parts_here shapes place kind.Set shape is))
  consists_by kind.Box has of =
      let is : IsOfKind shapes s kind.Box shape = record { here = here; kind = of } in (form.Box, structure_here shapes place kind.Box shape is ∙ ap (sequence form.Box) (parts_here shapes place kind.Box shape is))
  consists_by _ has of = absurd has

  -- the parts in a block are those of the definition
  parts_are : (form : Form) (ids : List ShapeId) → structure_at shapes s ≡ sequence form ids → ids ≡ parts_of_def shape.def
  parts_are form ids of =
      let e = sym of ∙ (consists_by (kind_at shapes s) blocks refl).1 in cc

  -- a sealed part has its layout among all shapes
  part_same : (id : ShapeId) → id.0 < length shapes → part_at (shapes ++ more) id ≡ part_at shapes id
  part_same id known = ap (λ o. part_layout (option_map_or (λ (t : Shape). t.layout) o layout.Unsized)) (slice_get_front shapes more id.0 known)

  abbrev IsKnown : PlacedField → Type 0
  IsKnown part = part.shape.0 < length shapes

  known_in : (form : Form) (ids : List ShapeId) → structure_at shapes s ≡ sequence form ids → All IsKnown (block_body shapes ids)
  known_in form ids of = (subst (HoldsApart shapes) of (laid_out m shapes well s below).blocks).known

  pub pair_size : (d : MapDef) → shape.def ≡ def.Map d → (form : Form) (ids : List ShapeId) → structure_at shapes s ≡ sequence form ids
      → (pair_layout (part_at (shapes ++ more) d.k) (part_at (shapes ++ more) d.v)).size ≡ block_size shapes ids
  pair_size d is form ids of =
      let same : ids ≡ d.k ∷ d.v ∷ [] = parts_are form ids of ∙ ap parts_of_def is in
      let all = subst (λ xs. All IsKnown (block_body shapes xs)) same (known_in form ids of) in
      let first : PlacedField = record { shape = d.k; offset = 0 } in
      let second : PlacedField = record { shape = d.v; offset = value_offset (part_at shapes d.k) (part_at shapes d.v) } in
      let key = All-head IsKnown first (second ∷ []) all in
      let value = All-head IsKnown second [] (All-tail IsKnown first (second ∷ []) all) in
      ap (λ l. (pair_layout l (part_at (shapes ++ more) d.v)).size) (part_same d.k key) ∙ ap (λ l. (pair_layout (part_at shapes d.k) l).size) (part_same d.v value) ∙ sym (ap (block_size shapes) same)

  module _ (other : (x : MapDef) → shape.def ≡ def.Map x → ⊥) where
    one_here : parts_of_def shape.def ≡ option_to_list (element_in shape.def)
    one_here = one_part (kind_at shapes s) shape.def blocks (elements_here shapes place (kind_at shapes s) shape (record { here = here; kind = refl })) other

    pub element_size : (element : ShapeId) → element_in shape.def ≡ Some element → (form : Form) (ids : List ShapeId) → structure_at shapes s ≡ sequence form ids
        → (part_at (shapes ++ more) element).size ≡ block_size shapes ids
    element_size element is form ids of =
        let same : ids ≡ element ∷ [] = parts_are form ids of ∙ one_here ∙ ap option_to_list is in
        let all = subst (λ xs. All IsKnown (block_body shapes xs)) same (known_in form ids of) in
        let known = All-head IsKnown (record { shape = element; offset = 0 }) [] all in
        ap (λ l. l.size) (part_same element known) ∙ sym (ap (block_size shapes) same)

    always_element : (k : ValueKind) → kind_at shapes s ≡ k → HasBlocks k → HasElements k shape.def → element_in shape.def ≡ None → ⊥
    always_element kind.Box of blocks has none =
        let (element, made_up) = box_is shapes s m well of in
        let e : element ∷ [] ≡ [] = parts_are form.Box (element ∷ []) made_up ∙ one_here ∙ ap option_to_list none in
        cc
    always_element kind.List of blocks has none = go shape.def has none
      where
        go : (d : Def) → HasElements kind.List d → element_in d ≡ None → ⊥
        go (def.List d) has none = cc
        go _ has none = has
    always_element kind.Set of blocks has none = go shape.def has none
      where
        go : (d : Def) → HasElements kind.Set d → element_in d ≡ None → ⊥
        go (def.Set d) has none = cc
        go _ has none = has
    always_element kind.Map of blocks has none = go shape.def refl has
      where
        go : (d : Def) → shape.def ≡ d → HasElements kind.Map d → ⊥
        go (def.Map d) is has = other d is
        go _ is has = has
    always_element _ of blocks has none = blocks

    pub has_element : element_in shape.def ≡ None → ⊥
    has_element none = always_element (kind_at shapes s) refl blocks (elements_here shapes place (kind_at shapes s) shape (record { here = here; kind = refl })) none

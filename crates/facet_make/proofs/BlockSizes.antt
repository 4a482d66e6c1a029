-- How many bytes the blocks of a list, a map or a set have, by the definition of its shape.
use Rattle.std.proofs.Common.{◌≡◌, ℕ, ◌<◌, All, List, [], ◌∷◌, ◌++◌, Some, length, slice_get, refl, sym, ap, ◌∙◌, subst}
use Rattle.std.specs.Option.{option_map_or}
use Rattle.std.proofs.lemmas.List.Elements.{All-head, All-tail}
use Rattle.facet_base.proofs.Lists.{slice_get_front}
use Rattle.facet_base.specs.declared.layout.ShapeId.{ShapeId}
use Rattle.facet_base.specs.declared.layout.ShapeLayout.TheVariants as layout
use Rattle.facet_causes.specs.Arrangement.{part_at}
use Rattle.facet_causes.specs.Causes.{IsWellFormed}
use Rattle.facet_causes.specs.Reading.{element_of, kind_in}
use Rattle.facet_def.specs.declared.def.Def.{Def}
use Rattle.facet_def.specs.declared.def.Def.TheVariants as def
use Rattle.facet_def.specs.declared.list_def.ListDef.{ListDef}
use Rattle.facet_def.specs.declared.map_def.MapDef.{MapDef}
use Rattle.facet_def.specs.declared.set_def.SetDef.{SetDef}
use Rattle.facet_leaf.specs.LeafModel.{LeafModel}
use Rattle.facet_make.specs.Initial.{block_size_at, block_size_by, initial_of_kind}
use Rattle.facet_make.specs.declared.initial.Initial.TheVariants as initial
use Rattle.facet_outline.specs.Layout.{pair_layout, part_layout, value_offset}
use Rattle.facet_outline.specs.declared.placed_fields.PlacedField.{PlacedField}
use Rattle.facet_outline.specs.declared.value_kind.ValueKind.{ValueKind}
use Rattle.facet_outline.specs.declared.value_kind.ValueKind.TheVariants as kind
use Rattle.facet_registry.specs.Registry.{kind_at}
use Rattle.facet_shape.specs.declared.shape.Shape.{Shape}
use Rattle.facet_trees.specs.Structure.{sequence, block_body, structure_at}
use Rattle.facet_trees.specs.declared.form.Form.{Form}
use Rattle.facet_trees.specs.declared.form.Form.TheVariants as form
use Rattle.facet_values.proofs.KindRows.{list_structure, map_structure, set_structure}
use Rattle.facet_values.proofs.LaidOut.{laid_out}
use Rattle.facet_values.specs.Laid.{HoldsApart}
use Rattle.facet_walk.proofs.SeenKinds.{HasElements, has_elements}

list_kind : (k : ValueKind) (d : ListDef) → HasElements k (def.List d) → initial_of_kind k ≡ initial.NoBlocks → k ≡ kind.List
list_kind kind.List d has is = refl
list_kind kind.Map d has is = absurd has
list_kind kind.Set d has is = absurd has
list_kind (kind.Leaf _) d has is = absurd (cc)
list_kind _ d has is = absurd (cc)

set_kind : (k : ValueKind) (d : SetDef) → HasElements k (def.Set d) → initial_of_kind k ≡ initial.NoBlocks → k ≡ kind.Set
set_kind kind.Set d has is = refl
set_kind kind.Map d has is = absurd has
set_kind kind.List d has is = absurd has
set_kind (kind.Leaf _) d has is = absurd (cc)
set_kind _ d has is = absurd (cc)

map_kind : (k : ValueKind) (d : MapDef) → HasElements k (def.Map d) → initial_of_kind k ≡ initial.NoBlocks → k ≡ kind.Map
map_kind kind.Map d has is = refl
map_kind kind.Set d has is = absurd has
map_kind kind.List d has is = absurd has
map_kind (kind.Leaf _) d has is = absurd (cc)
map_kind _ d has is = absurd (cc)

abbrev IsOther : Def → Type 0
IsOther (def.List _) = ⊥
IsOther (def.Set _) = ⊥
IsOther (def.Map _) = ⊥
IsOther _ = Unit {0}

none_other : (k : ValueKind) (d : Def) → HasElements k d → initial_of_kind k ≡ initial.NoBlocks → IsOther d → ⊥
none_other kind.List (def.List _) has is other = other
none_other kind.List _ has is other = has
none_other kind.Set (def.Set _) has is other = other
none_other kind.Set _ has is other = has
none_other kind.Map (def.Map _) has is other = other
none_other kind.Map _ has is other = has
none_other (kind.Leaf _) d has is other = cc
none_other _ d has is other = cc

is_other : (d : Def) → ((x : ListDef) → d ≡ def.List x → ⊥) → ((x : SetDef) → d ≡ def.Set x → ⊥) → ((x : MapDef) → d ≡ def.Map x → ⊥) → IsOther d
is_other (def.List x) list set map = absurd (list x refl)
is_other (def.Set x) list set map = absurd (set x refl)
is_other (def.Map x) list set map = absurd (map x refl)
is_other _ list set map = tt

module _ {L : Type 0} (m : LeafModel L) (shapes more : List Shape) (well : IsWellFormed m shapes) (s : ℕ) (below : s < length shapes) (shape : Shape) (here : slice_get shapes s ≡ Some shape)
    (blocks : initial_of_kind (kind_at shapes s) ≡ initial.NoBlocks) where
  kind_here : kind_at shapes s ≡ kind_in shapes shape
  kind_here = ap (λ o. option_map_or (kind_in shapes) o kind.NoValue) here

  blocks_here : initial_of_kind (kind_in shapes shape) ≡ initial.NoBlocks
  blocks_here = ap initial_of_kind (sym kind_here) ∙ blocks

  has_here : (d : Def) → shape.def ≡ d → HasElements (kind_in shapes shape) d
  has_here d is = subst (HasElements (kind_in shapes shape)) is (has_elements (element_of shapes shape.def) shape)

  -- a sealed part has its layout among all shapes
  part_same : (id : ShapeId) → id.0 < length shapes → part_at (shapes ++ more) id ≡ part_at shapes id
  part_same id known = ap (λ o. part_layout (option_map_or (λ (t : Shape). t.layout) o layout.Unsized)) (slice_get_front shapes more id.0 known)

  known_in : (form : Form) (ids : List ShapeId) → structure_at shapes s ≡ sequence form ids → All (λ (part : PlacedField). part.shape.0 < length shapes) (block_body shapes ids)
  known_in form ids of = (subst (HoldsApart shapes) of (laid_out m shapes well s below).blocks).known

  pub list_size : (d : ListDef) → shape.def ≡ def.List d → (part_at (shapes ++ more) d.t).size ≡ block_size_at shapes s
  list_size d is =
      let of = list_structure shapes s shape here d (list_kind (kind_in shapes shape) d (has_here (def.List d) is) blocks_here) is in
      let known = All-head (λ (part : PlacedField). part.shape.0 < length shapes) (record { shape = d.t; offset = 0 }) [] (known_in form.List (d.t ∷ []) of) in
      ap (λ l. l.size) (part_same d.t known) ∙ sym (ap (block_size_by shapes) of)

  pub set_size : (d : SetDef) → shape.def ≡ def.Set d → (part_at (shapes ++ more) d.t).size ≡ block_size_at shapes s
  set_size d is =
      let of = set_structure shapes s shape here d (set_kind (kind_in shapes shape) d (has_here (def.Set d) is) blocks_here) is in
      let known = All-head (λ (part : PlacedField). part.shape.0 < length shapes) (record { shape = d.t; offset = 0 }) [] (known_in form.Set (d.t ∷ []) of) in
      ap (λ l. l.size) (part_same d.t known) ∙ sym (ap (block_size_by shapes) of)

  pub map_size : (d : MapDef) → shape.def ≡ def.Map d → (pair_layout (part_at (shapes ++ more) d.k) (part_at (shapes ++ more) d.v)).size ≡ block_size_at shapes s
  map_size d is =
      let of = map_structure shapes s shape here d (map_kind (kind_in shapes shape) d (has_here (def.Map d) is) blocks_here) is in
      let all = known_in form.Map (d.k ∷ d.v ∷ []) of in
      let Known : PlacedField → Type 0 = λ part. part.shape.0 < length shapes in
      let first : PlacedField = record { shape = d.k; offset = 0 } in
      let second : PlacedField = record { shape = d.v; offset = value_offset (part_at shapes d.k) (part_at shapes d.v) } in
      let key = All-head Known first (second ∷ []) all in
      let value = All-head Known second [] (All-tail Known first (second ∷ []) all) in
      ap (λ l. (pair_layout l (part_at (shapes ++ more) d.v)).size) (part_same d.k key) ∙ ap (λ l. (pair_layout (part_at shapes d.k) l).size) (part_same d.v value) ∙ sym (ap (block_size_by shapes) of)

  pub no_other_def : ((x : ListDef) → shape.def ≡ def.List x → ⊥) → ((x : SetDef) → shape.def ≡ def.Set x → ⊥) → ((x : MapDef) → shape.def ≡ def.Map x → ⊥) → ⊥
  no_other_def list set map = none_other (kind_in shapes shape) shape.def (has_here shape.def refl) blocks_here (is_other shape.def list set map)

-- What is seen of a place, kind by kind, as the code finds it by the definition and the type of its shape.
use Rattle.std.proofs.Common.{◌≡◌, ℕ, ◌<◌, ◌≤◌, List, [], ◌∷◌, ◌++◌, All, Option, None, Some, length, slice_get, unwrap_or, zero, suc, refl, sym, ap, ◌∙◌, subst, arith, length-append}
use Rattle.std.specs.Prelude.{⊤}
use Rattle.std.specs.Option.{option_map_or, option_to_list}
use Rattle.std.proofs.lemmas.List.Elements.{All-head}
use Rattle.facet_base.proofs.Lists.{slice_get_front}
use Rattle.facet_base.specs.declared.known_pointer.KnownPointer.{KnownPointer}
use Rattle.facet_base.specs.declared.known_pointer.KnownPointer.TheVariants as known
use Rattle.facet_base.specs.declared.layout.ShapeId.{ShapeId}
use Rattle.facet_base.specs.declared.scalar_type.ScalarType.{ScalarType}
use Rattle.facet_base.specs.declared.scalar_type.ScalarType.TheVariants as scalar
use Rattle.facet_block.specs.declared.block.Block.{Block}
use Rattle.facet_block.specs.declared.block.Seq.{Seq}
use Rattle.facet_block.specs.declared.ptr_const.PtrConst.{PtrConst}
use Rattle.facet_block.specs.Block.{item_at, leaf_of, sequence_of}
use Rattle.facet_block.specs.Seq.{filled_of}
use Rattle.facet_causes.proofs.Front.{AreKnown, def_parts_front, element_same, layout_same}
use Rattle.facet_causes.proofs.Sealed.{known_by}
use Rattle.facet_causes.specs.Arrangement.{arrangements, arrangements_of_kind, in_a_row, single}
use Rattle.facet_causes.specs.Causes.{IsWellFormed}
use Rattle.facet_causes.specs.Reading.{element_of, kind_in, layout_at}
use Rattle.facet_causes.specs.declared.cause.SealCause.TheVariants as cause
use Rattle.facet_def.specs.declared.def.Def.{Def}
use Rattle.facet_def.specs.declared.def.Def.TheVariants as def
use Rattle.facet_def.specs.declared.map_def.MapDef.{MapDef}
use Rattle.facet_desc.specs.WithoutSpare.{ty_without_spare}
use Rattle.facet_desc.specs.declared.ty.Ty.{Ty}
use Rattle.facet_desc.specs.declared.ty.Ty.TheVariants as ty
use Rattle.facet_desc.specs.declared.ty.UserType.TheVariants as user
use Rattle.facet_leaf.specs.LeafModel.{LeafModel}
use Rattle.facet_outline.proofs.SameItems.{bodies_same}
use Rattle.facet_outline.specs.Field.{bodies}
use Rattle.facet_outline.specs.Layout.{part_layout}
use Rattle.facet_outline.specs.Part.{parts, parts_of_kind}
use Rattle.facet_outline.specs.References.{parts_of_def}
use Rattle.facet_outline.specs.ValueKind.{kind_by_def, kind_by_scalar, kind_by_type, kind_of, kind_of_box, kind_of_pointer}
use Rattle.facet_outline.specs.declared.placed_fields.PlacedField.{PlacedField}
use Rattle.facet_outline.specs.declared.value_kind.ValueKind.{ValueKind}
use Rattle.facet_outline.specs.declared.value_kind.ValueKind.TheVariants as kind
use Rattle.facet_registry.specs.Offsets.{pair_value_offset_at, pair_value_offset_by_def, part_offset_at, part_offset_by_def}
use Rattle.facet_registry.specs.Registry.{kind_at}
use Rattle.facet_shape.specs.WithoutSpare.{shape_without_spare}
use Rattle.facet_shape.specs.declared.shape.Shape.{Shape}
use Rattle.facet_trees.specs.Structure.{no_values, sequence, tagged, block_body, body_under, option_form, result_form, structure_at, structure_of_kind}
use Rattle.facet_trees.specs.declared.form.Form.{Form}
use Rattle.facet_trees.specs.declared.form.Form.TheVariants as form
use Rattle.facet_values.specs.Place.{Place, block_places, own_item, part_places}
use Rattle.facet_values.specs.Seen.{a_leaf, a_node, no_value, seen, seen_by}
use Rattle.facet_walk.specs.Look.{element_in, elements_in_a_row, option_bodies, pair_in, result_bodies, seen_in_blocks}

-- a node under one of two tags
pub two_bodies : {L : Type 0} (forms : ℕ → Form) (places : List PlacedField → List (Place L)) (a b : List PlacedField) (tag : Option ℕ) →
    option_map_or (λ k. unwrap_or (slice_get (a_node (forms 0) (places a) ∷ a_node (forms 1) (places b) ∷ []) k) no_value) tag no_value
    ≡ option_map_or (λ k. option_map_or (λ body. a_node (forms k) (places body)) (slice_get (a ∷ b ∷ []) k) no_value) tag no_value
two_bodies forms places a b None = refl
two_bodies forms places a b (Some zero) = refl
two_bodies forms places a b (Some (suc zero)) = refl
two_bodies forms places a b (Some (suc (suc k))) = refl

-- no block has parts where each has none
pub no_places : {L : Type 0} (blocks : List (Block L)) → [] ≡ block_places {L = L} [] blocks
no_places [] = refl
no_places (b ∷ blocks) = no_places blocks

-- what is seen of a sequence whose blocks have no parts
pub nothing_in_blocks : {L : Type 0} (form : Form) (at : PtrConst L) (s : Seq L) → Some s ≡ sequence_of (item_at at.block.now at.offset) → a_node form [] ≡ seen_in_blocks form [] at
nothing_in_blocks form at s e = ap (a_node form) (no_places (filled_of s)) ∙ ap (λ o. option_map_or (λ t. a_node form (block_places [] (filled_of t))) o no_value) e

-- without a map there are no pairs
pub no_pairs : {L : Type 0} (d : Def) (offset : ℕ) (blocks : List (Block L)) → ((m : MapDef) → d ≡ def.Map m → ⊥) → [] ≡ block_places (pair_in d offset) blocks
no_pairs (def.Map m) offset blocks other = absurd (other m refl)
no_pairs _ offset blocks other = no_places blocks

-- a shape whose values are sequences says by its definition what they consist of
abbrev pub HasElements : ValueKind → Def → Type 0
HasElements kind.List (def.List d) = ⊤
HasElements kind.List _ = ⊥
HasElements kind.Set (def.Set d) = ⊤
HasElements kind.Set _ = ⊥
HasElements kind.Map (def.Map d) = ⊤
HasElements kind.Map _ = ⊥
HasElements kind.Box (def.Pointer d) = ⊤
HasElements kind.Box _ = ⊥
HasElements _ d = ⊤

of_type : (d : Def) (t : Ty) → HasElements (kind_by_type t) d
of_type d (ty.User (user.Struct s)) = tt
of_type d (ty.User (user.Enum e)) = tt
of_type d _ = tt

of_box : (element : Option ShapeId) (d : _) → HasElements (kind_of_box element) (def.Pointer d)
of_box (Some id) d = tt
of_box None d = tt

of_pointer : (element : Option ShapeId) (pointer : Option KnownPointer) (d : _) → HasElements (kind_of_pointer element pointer) (def.Pointer d)
of_pointer element (Some known.Box) d = of_box element d
of_pointer element _ d = tt

of_def : (element : Option ShapeId) (d : Def) (t : Ty) → HasElements (kind_by_def element d t) d
of_def element (def.Option _) t = tt
of_def element (def.Result _) t = tt
of_def element (def.List _) t = tt
of_def element (def.Map _) t = tt
of_def element (def.Set _) t = tt
of_def element (def.Array _) t = tt
of_def element (def.Pointer d) t = of_pointer element d.known d
of_def element def.Undefined t = of_type def.Undefined t
of_def element _ t = tt

of_scalar : (of : Option ScalarType) (element : Option ShapeId) (d : Def) (t : Ty) → HasElements (kind_by_scalar of element d t) d
of_scalar (Some scalar.Unit) element d t = tt
of_scalar (Some scalar.Str) element d t = of_def element d t
of_scalar (Some k) element d t = tt
of_scalar None element d t = of_def element d t

pub has_elements : (element : Option ShapeId) (shape : Shape) → HasElements (kind_of element shape) shape.def
has_elements element shape = of_scalar shape.scalar element shape.def shape.ty

-- what a list, a set or a box consists of
pub list_element : (d : Def) → HasElements kind.List d → parts_of_def d ≡ option_to_list (element_in d)
list_element (def.List d) has = refl
list_element _ has = absurd has

set_element : (d : Def) → HasElements kind.Set d → parts_of_def d ≡ option_to_list (element_in d)
set_element (def.Set d) has = refl
set_element _ has = absurd has

box_element : (d : Def) → HasElements kind.Box d → parts_of_def d ≡ option_to_list (element_in d)
box_element (def.Pointer d) has = refl
box_element _ has = absurd has

module _ (shapes : List Shape) where
  map_pair : (d : Def) → HasElements kind.Map d → block_body shapes (parts_of_def d) ≡ pair_in d (pair_value_offset_by_def shapes d)
  map_pair (def.Map d) has = refl
  map_pair _ has = absurd has

  body_of_one : (element : Option ShapeId) → block_body shapes (option_to_list element) ≡ option_map_or (λ id. single id 0) element []
  body_of_one (Some id) = refl
  body_of_one None = refl

  option_arranged : (d : Def) (t : Ty) → arrangements_of_kind (layout_at shapes) kind.Option d t ≡ option_bodies d (part_offset_by_def shapes d)
  option_arranged (def.Option o) t = refl
  option_arranged _ t = refl

  result_arranged : (d : Def) (t : Ty) → arrangements_of_kind (layout_at shapes) kind.Result d t ≡ result_bodies d (part_offset_by_def shapes d)
  result_arranged (def.Result r) t = refl
  result_arranged _ t = refl

  array_arranged : (d : Def) (t : Ty) → body_under (arrangements_of_kind (layout_at shapes) kind.Array d t) 0 ≡ elements_in_a_row shapes d
  array_arranged (def.Array a) t = refl
  array_arranged _ t = refl

  -- the shape that the code finds under an id, and the kind of its values
  pub record IsOfKind (s : ℕ) (k : ValueKind) (shape : Shape) : Type 0 where
    pub here : slice_get shapes s ≡ Some (shape_without_spare shape)
    pub kind : kind_at shapes s ≡ k

  module _ {L : Type 0} (p : Place L) (k : ValueKind) (shape : Shape) (is : IsOfKind p.shape k shape) where
    pub kind_here : kind_in shapes (shape_without_spare shape) ≡ k
    kind_here = sym (ap (λ o. option_map_or (kind_in shapes) o kind.NoValue) is.here) ∙ is.kind

    pub structure_here : structure_at shapes p.shape ≡ structure_of_kind shapes k (shape_without_spare shape)
    unfolding structure_at
    structure_here =
        ap (λ o. option_map_or (λ t. structure_of_kind shapes (kind_in shapes t) t) o no_values) is.here
        ∙ ap (λ j. structure_of_kind shapes j (shape_without_spare shape)) kind_here

    seen_here : seen shapes p ≡ seen_by shapes (structure_of_kind shapes k (shape_without_spare shape)) p (own_item p)
    unfolding seen
    seen_here = ap (λ structure. seen_by shapes structure p (own_item p)) structure_here

    arranged_here : arrangements shapes (shape_without_spare shape) ≡ arrangements_of_kind (layout_at shapes) k shape.def (ty_without_spare shape.ty)
    unfolding arrangements
    arranged_here = ap (λ j. arrangements_of_kind (layout_at shapes) j shape.def (ty_without_spare shape.ty)) kind_here

    pub parts_here : parts (element_of shapes shape.def) (shape_without_spare shape) ≡ parts_of_kind k (element_of shapes shape.def) shape.def (ty_without_spare shape.ty)
    unfolding parts
    parts_here = ap (λ j. parts_of_kind j (element_of shapes shape.def) shape.def (ty_without_spare shape.ty)) kind_here

    pub elements_here : HasElements k shape.def
    elements_here = subst (λ j. HasElements j shape.def) kind_here (has_elements (element_of shapes shape.def) (shape_without_spare shape))

    part_offset_here : part_offset_at shapes p.shape ≡ part_offset_by_def shapes shape.def
    part_offset_here = ap (λ o. option_map_or (λ (t : Shape). part_offset_by_def shapes t.def) o 0) is.here

    value_offset_here : pair_value_offset_at shapes p.shape ≡ pair_value_offset_by_def shapes shape.def
    value_offset_here = ap (λ o. option_map_or (λ (t : Shape). pair_value_offset_by_def shapes t.def) o 0) is.here

  module _ {L : Type 0} (p : Place L) (shape : Shape) where
    pub leaf_seen : (k : ScalarType) → IsOfKind p.shape (kind.Leaf k) shape → seen shapes p ≡ option_map_or a_leaf (leaf_of (own_item p)) no_value
    leaf_seen k is = seen_here p (kind.Leaf k) shape is

    pub unit_seen : IsOfKind p.shape kind.Unit shape → seen shapes p ≡ a_node form.Unit []
    unit_seen is = seen_here p kind.Unit shape is

    pub nothing_seen : IsOfKind p.shape kind.NoValue shape → seen shapes p ≡ no_value
    nothing_seen is = seen_here p kind.NoValue shape is

    pub struct_seen : IsOfKind p.shape kind.Struct shape → seen shapes p ≡ a_node form.Record (part_places p (body_under (bodies kind.Struct shape.ty) 0))
    struct_seen is =
        seen_here p kind.Struct shape is
        ∙ ap (λ all. a_node form.Record (part_places p (body_under all 0))) (arranged_here p kind.Struct shape is ∙ bodies_same kind.Struct shape.ty)

    pub array_seen : IsOfKind p.shape kind.Array shape → seen shapes p ≡ a_node form.Array (part_places p (elements_in_a_row shapes shape.def))
    array_seen is =
        seen_here p kind.Array shape is
        ∙ ap (λ all. a_node form.Array (part_places p (body_under all 0))) (arranged_here p kind.Array shape is)
        ∙ ap (λ body. a_node form.Array (part_places p body)) (array_arranged shape.def (ty_without_spare shape.ty))

    pub enum_seen : IsOfKind p.shape kind.Enum shape → seen shapes p ≡ seen_by shapes (tagged form.Variant (bodies kind.Enum shape.ty)) p (own_item p)
    enum_seen is =
        seen_here p kind.Enum shape is
        ∙ ap (λ all. seen_by shapes (tagged form.Variant all) p (own_item p)) (arranged_here p kind.Enum shape is ∙ bodies_same kind.Enum shape.ty)

    pub option_seen : IsOfKind p.shape kind.Option shape →
        seen shapes p ≡ seen_by shapes (tagged option_form (option_bodies shape.def (part_offset_at shapes p.shape))) p (own_item p)
    option_seen is =
        seen_here p kind.Option shape is
        ∙ ap (λ all. seen_by shapes (tagged option_form all) p (own_item p))
        (arranged_here p kind.Option shape is ∙ option_arranged shape.def (ty_without_spare shape.ty) ∙ ap (option_bodies shape.def) (sym (part_offset_here p kind.Option shape is)))

    pub result_seen : IsOfKind p.shape kind.Result shape →
        seen shapes p ≡ seen_by shapes (tagged result_form (result_bodies shape.def (part_offset_at shapes p.shape))) p (own_item p)
    result_seen is =
        seen_here p kind.Result shape is
        ∙ ap (λ all. seen_by shapes (tagged result_form all) p (own_item p))
        (arranged_here p kind.Result shape is ∙ result_arranged shape.def (ty_without_spare shape.ty) ∙ ap (result_bodies shape.def) (sym (part_offset_here p kind.Result shape is)))

    -- where the one element of the blocks of a sequence is known
    one_seen : (form : Form) (element : Option ShapeId) → (seen shapes p ≡ seen_by shapes (sequence form (parts (element_of shapes shape.def) (shape_without_spare shape))) p (own_item p)) →
        parts (element_of shapes shape.def) (shape_without_spare shape) ≡ option_to_list element →
        seen shapes p ≡ option_map_or (λ s. a_node form (block_places (option_map_or (λ id. single id 0) element []) (filled_of s))) (sequence_of (own_item p)) no_value
    one_seen form element sees consists =
        sees
        ∙ ap (λ ids. option_map_or (λ s. a_node form (block_places (block_body shapes ids) (filled_of s))) (sequence_of (own_item p)) no_value) consists
        ∙ ap (λ body. option_map_or (λ s. a_node form (block_places body (filled_of s))) (sequence_of (own_item p)) no_value) (body_of_one element)

    pub list_seen : IsOfKind p.shape kind.List shape →
        seen shapes p ≡ option_map_or (λ s. a_node form.List (block_places (option_map_or (λ id. single id 0) (element_in shape.def) []) (filled_of s))) (sequence_of (own_item p)) no_value
    list_seen is =
        one_seen form.List (element_in shape.def) (seen_here p kind.List shape is)
        (parts_here p kind.List shape is ∙ list_element shape.def (elements_here p kind.List shape is))

    pub set_seen : IsOfKind p.shape kind.Set shape →
        seen shapes p ≡ option_map_or (λ s. a_node form.Set (block_places (option_map_or (λ id. single id 0) (element_in shape.def) []) (filled_of s))) (sequence_of (own_item p)) no_value
    set_seen is =
        one_seen form.Set (element_in shape.def) (seen_here p kind.Set shape is)
        (parts_here p kind.Set shape is ∙ set_element shape.def (elements_here p kind.Set shape is))

    pub box_seen : IsOfKind p.shape kind.Box shape →
        seen shapes p ≡ option_map_or (λ s. a_node form.Box (block_places (option_map_or (λ id. single id 0) (element_in shape.def) []) (filled_of s))) (sequence_of (own_item p)) no_value
    box_seen is =
        one_seen form.Box (element_in shape.def) (seen_here p kind.Box shape is)
        (parts_here p kind.Box shape is ∙ box_element shape.def (elements_here p kind.Box shape is))

    pub slice_seen : IsOfKind p.shape kind.BoxedSlice shape →
        seen shapes p ≡ option_map_or (λ s. a_node form.BoxedSlice (block_places (option_map_or (λ id. single id 0) (element_of shapes shape.def) []) (filled_of s))) (sequence_of (own_item p)) no_value
    slice_seen is = one_seen form.BoxedSlice (element_of shapes shape.def) (seen_here p kind.BoxedSlice shape is) (parts_here p kind.BoxedSlice shape is)

    pub map_seen : IsOfKind p.shape kind.Map shape →
        seen shapes p ≡ option_map_or (λ s. a_node form.Map (block_places (pair_in shape.def (pair_value_offset_at shapes p.shape)) (filled_of s))) (sequence_of (own_item p)) no_value
    map_seen is =
        seen_here p kind.Map shape is
        ∙ ap (λ ids. option_map_or (λ s. a_node form.Map (block_places (block_body shapes ids) (filled_of s))) (sequence_of (own_item p)) no_value) (parts_here p kind.Map shape is)
        ∙ ap (λ body. option_map_or (λ s. a_node form.Map (block_places body (filled_of s))) (sequence_of (own_item p)) no_value)
        (map_pair shape.def (elements_here p kind.Map shape is) ∙ ap (pair_in shape.def) (sym (value_offset_here p kind.Map shape is)))

-- what is read off the definition of a sealed shape among all shapes, drafts too, is the same as among the sealed ones
module _ {L : Type 0} (m : LeafModel L) (xs ys : List Shape) (well : IsWellFormed m xs) (s : ℕ) (shape : Shape) (here : slice_get xs s ≡ Some (shape_without_spare shape)) where
  all_known : AreKnown xs
  all_known = known_by m xs (λ t under. well cause.UnknownShape t under)

  longer : length xs ≤ length (xs ++ ys)
  longer = omega (arith, length-append xs ys)

  pub elements_stay : element_of (xs ++ ys) shape.def ≡ element_of xs shape.def
  elements_stay = element_same xs (xs ++ ys) longer (slice_get_front xs ys) all_known s (shape_without_spare shape) here

  row_stays_by : (d : Def) → All (λ id. id.0 < length xs) (parts_of_def d) → elements_in_a_row (xs ++ ys) d ≡ elements_in_a_row xs d
  row_stays_by (def.Array a) inside =
      let same = layout_same xs (xs ++ ys) longer (slice_get_front xs ys) all_known a.t (All-head (λ id. id.0 < length xs) a.t [] inside) in
      ap (λ layout. in_a_row a.t a.n (part_layout layout).size) same
  row_stays_by _ inside = refl

  pub row_stays : elements_in_a_row (xs ++ ys) shape.def ≡ elements_in_a_row xs shape.def
  row_stays = row_stays_by shape.def (def_parts_front xs (xs ++ ys) longer (slice_get_front xs ys) all_known s (shape_without_spare shape) here)

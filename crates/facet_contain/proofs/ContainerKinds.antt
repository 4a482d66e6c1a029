-- How the values of containers are made up, by the kinds of their shapes.
use Rattle.std.proofs.Common.{◌≡◌, ℕ, false, List, [], ◌∷◌, Option, None, Some, slice_get, refl, sym, ap, ◌∙◌, subst}
use Rattle.std.specs.Prelude.{⊤}
use Rattle.std.specs.Option.{option_map_or}
use Rattle.std.proofs.lemmas.Bool.{false_from_ne_true, or_parts}
use Rattle.std.proofs.lemmas.Option.{slice_get_within}
use Rattle.facet_base.specs.declared.known_pointer.KnownPointer.{KnownPointer}
use Rattle.facet_base.specs.declared.known_pointer.KnownPointer.TheVariants as known
use Rattle.facet_base.specs.declared.layout.ShapeId.{ShapeId}
use Rattle.facet_base.specs.declared.scalar_type.ScalarType.{ScalarType}
use Rattle.facet_base.specs.declared.scalar_type.ScalarType.TheVariants as scalar
use Rattle.facet_causes.specs.Arrangement.{arrangements, single}
use Rattle.facet_causes.specs.Causes.{IsWellFormed, ShapeMeets}
use Rattle.facet_causes.specs.Reading.{OfShape, element_of, kind_in, layout_at}
use Rattle.facet_causes.specs.declared.cause.SealCause.TheVariants as cause
use Rattle.facet_def.specs.declared.def.Def.{Def}
use Rattle.facet_def.specs.declared.def.Def.TheVariants as def
use Rattle.facet_def.specs.declared.option_def.OptionDef.{OptionDef}
use Rattle.facet_def.specs.declared.pointer_def.PointerDef.{PointerDef}
use Rattle.facet_def.specs.declared.result_def.ResultDef.{ResultDef}
use Rattle.facet_desc.specs.declared.parameter.TypeParam.{TypeParam}
use Rattle.facet_desc.specs.declared.ty.Ty.{Ty}
use Rattle.facet_desc.specs.declared.ty.Ty.TheVariants as ty
use Rattle.facet_desc.specs.declared.ty.UserType.TheVariants as user
use Rattle.facet_leaf.specs.LeafModel.{LeafModel}
use Rattle.facet_outline.specs.Mismatch.{is_box_without_content, is_mismatched, lacks_content_if_box}
use Rattle.facet_outline.specs.ValueKind.{kind_by_def, kind_by_scalar, kind_by_type, kind_of_box, kind_of_pointer}
use Rattle.facet_outline.specs.declared.placed_fields.PlacedField.{PlacedField}
use Rattle.facet_outline.specs.declared.value_kind.ValueKind.{ValueKind}
use Rattle.facet_outline.specs.declared.value_kind.ValueKind.TheVariants as kind
use Rattle.facet_registry.specs.Offsets.{part_offset_at, part_offset_by_def}
use Rattle.facet_registry.specs.Registry.{kind_at}
use Rattle.facet_shape.specs.declared.shape.Shape.{Shape}
use Rattle.facet_trees.specs.Structure.{option_form, result_form, sequence, structure_at, tagged}
use Rattle.facet_trees.specs.declared.form.Form.{Form}
use Rattle.facet_trees.specs.declared.form.Form.TheVariants as form
use Rattle.facet_values.proofs.KindRows.{box_structure, boxed_slice_structure, list_structure, map_structure, option_structure, result_structure, set_structure, structure_is}

-- what the definition of a shape whose values are of a kind is, where it says what their parts are
abbrev IsDefinedAs : Option ShapeId → ValueKind → Def → Type 0
IsDefinedAs element kind.Option (def.Option d) = ⊤
IsDefinedAs element kind.Option _ = ⊥
IsDefinedAs element kind.Result (def.Result d) = ⊤
IsDefinedAs element kind.Result _ = ⊥
IsDefinedAs element kind.List (def.List d) = ⊤
IsDefinedAs element kind.List _ = ⊥
IsDefinedAs element kind.Set (def.Set d) = ⊤
IsDefinedAs element kind.Set _ = ⊥
IsDefinedAs element kind.Map (def.Map d) = ⊤
IsDefinedAs element kind.Map _ = ⊥
IsDefinedAs element kind.Box (def.Pointer d) = d.known ≡ Some known.Box
IsDefinedAs element kind.Box _ = ⊥
IsDefinedAs element kind.BoxedSlice d = (of : ShapeId) × (element ≡ Some of)
IsDefinedAs element _ d = ⊤

of_type : (element : Option ShapeId) (d : Def) (t : Ty) → IsDefinedAs element (kind_by_type t) d
of_type element d (ty.User (user.Struct s)) = tt
of_type element d (ty.User (user.Enum e)) = tt
of_type element d _ = tt

of_box : (element : Option ShapeId) (d : PointerDef) → d.known ≡ Some known.Box → IsDefinedAs element (kind_of_box element) (def.Pointer d)
of_box (Some id) d is = (id, refl)
of_box None d is = is

of_pointer : (element : Option ShapeId) (d : PointerDef) (pointer : Option KnownPointer) → d.known ≡ pointer → IsDefinedAs element (kind_of_pointer element pointer) (def.Pointer d)
of_pointer element d (Some known.Box) is = of_box element d is
of_pointer element d _ is = tt

of_def : (element : Option ShapeId) (d : Def) (t : Ty) → IsDefinedAs element (kind_by_def element d t) d
of_def element (def.Option _) t = tt
of_def element (def.Result _) t = tt
of_def element (def.List _) t = tt
of_def element (def.Map _) t = tt
of_def element (def.Set _) t = tt
of_def element (def.Array _) t = tt
of_def element (def.Pointer d) t = of_pointer element d d.known refl
of_def element def.Undefined t = of_type element def.Undefined t
of_def element _ t = tt

of_scalar : (k : Option ScalarType) (element : Option ShapeId) (d : Def) (t : Ty) → IsDefinedAs element (kind_by_scalar k element d t) d
of_scalar (Some scalar.Unit) element d t = tt
of_scalar (Some scalar.Str) element d t = of_def element d t
of_scalar (Some k) element d t = tt
of_scalar None element d t = of_def element d t

-- a box has a content
content_by : (pointer : Option KnownPointer) (content : Option ShapeId) (params : List TypeParam) → pointer ≡ Some known.Box → lacks_content_if_box pointer content params ≡ false → (id : ShapeId) × (content ≡ Some id)
content_by pointer (Some id) params is has = (id, refl)
content_by pointer None params is has =
    let e : lacks_content_if_box (Some known.Box) None params ≡ false = subst (λ o. lacks_content_if_box o None params ≡ false) is has in absurd (cc)

module _ (shapes : List Shape) (s : ℕ) where
  -- a shape whose values are of a kind
  pub record IsOfKind (k : ValueKind) : Type 0 where
    pub shape : Shape
    pub found : slice_get shapes s ≡ Some shape
    pub of : kind_in shapes shape ≡ k

  shape_there : (k : ValueKind) → (k ≡ kind.NoValue → ⊥) → kind_at shapes s ≡ k → IsOfKind k
  shape_there k some of = go (slice_get shapes s) refl of
    where
      go : (o : Option Shape) → slice_get shapes s ≡ o → option_map_or (kind_in shapes) o kind.NoValue ≡ k → IsOfKind k
      go None is of = absurd (some (sym of))
      go (Some shape) is of = record { shape = shape; found = is; of = of }

  module _ (k : ValueKind) (is : IsOfKind k) where
    defined : IsDefinedAs (element_of shapes is.shape.def) k is.shape.def
    defined = subst (λ j. IsDefinedAs (element_of shapes is.shape.def) j is.shape.def) is.of (of_scalar is.shape.scalar (element_of shapes is.shape.def) is.shape.def is.shape.ty)

    offset_is : (d : Def) → is.shape.def ≡ d → part_offset_by_def shapes d ≡ part_offset_at shapes s
    offset_is d same = sym (ap (λ o. option_map_or (λ (t : Shape). part_offset_by_def shapes t.def) o 0) is.found ∙ ap (part_offset_by_def shapes) same)

  -- options
  abbrev IsOption : Type 0
  IsOption = (part : ShapeId) × (structure_at shapes s ≡ tagged option_form ([] ∷ single part (part_offset_at shapes s) ∷ []))

  option_by : (is : IsOfKind kind.Option) (d : Def) → is.shape.def ≡ d → IsDefinedAs (element_of shapes is.shape.def) kind.Option d → IsOption
  option_by is (def.Option d) same has = (d.t, option_structure shapes s is.shape is.found d is.of same ∙ ap (λ n. tagged option_form ([] ∷ single d.t n ∷ [])) (offset_is kind.Option is (def.Option d) same))
  option_by is _ same has = absurd has

  pub option_is : kind_at shapes s ≡ kind.Option → IsOption
  option_is of = let is = shape_there kind.Option (λ e. cc) of in option_by is is.shape.def refl (defined kind.Option is)

  kind_there : (k : ValueKind) (shape : Shape) → slice_get shapes s ≡ Some shape → kind_at shapes s ≡ k → kind_in shapes shape ≡ k
  kind_there k shape found of = sym (ap (λ o. option_map_or (kind_in shapes) o kind.NoValue) found) ∙ of

  -- the same by the shape that is found under the id
  module _ (shape : Shape) (found : slice_get shapes s ≡ Some shape) (of : kind_at shapes s ≡ kind.Option) where
    abbrev option_found : IsOfKind kind.Option
    option_found = record { shape = shape; found = found; of = kind_there kind.Option shape found of }

    pub option_part_is : (d : OptionDef) → shape.def ≡ def.Option d → structure_at shapes s ≡ tagged option_form ([] ∷ single d.t (part_offset_at shapes s) ∷ [])
    option_part_is d same =
        option_structure shapes s shape found d option_found.of same ∙ ap (λ n. tagged option_form ([] ∷ single d.t n ∷ [])) (offset_is kind.Option option_found (def.Option d) same)

    pub always_option : ((d : OptionDef) → shape.def ≡ def.Option d → ⊥) → ⊥
    always_option other = go shape.def refl (defined kind.Option option_found)
      where
        go : (d : Def) → shape.def ≡ d → IsDefinedAs (element_of shapes shape.def) kind.Option d → ⊥
        go (def.Option d) same has = other d same
        go _ same has = has

  -- results
  abbrev IsResult : Type 0
  IsResult = (value : ShapeId) × ((error : ShapeId) × (structure_at shapes s ≡ tagged result_form (single value (part_offset_at shapes s) ∷ single error (part_offset_at shapes s) ∷ [])))

  result_by : (is : IsOfKind kind.Result) (d : Def) → is.shape.def ≡ d → IsDefinedAs (element_of shapes is.shape.def) kind.Result d → IsResult
  result_by is (def.Result d) same has =
      (d.t, (d.e, result_structure shapes s is.shape is.found d is.of same ∙ ap (λ n. tagged result_form (single d.t n ∷ single d.e n ∷ [])) (offset_is kind.Result is (def.Result d) same)))
  result_by is _ same has = absurd has

  pub result_is : kind_at shapes s ≡ kind.Result → IsResult
  result_is of = let is = shape_there kind.Result (λ e. cc) of in result_by is is.shape.def refl (defined kind.Result is)

  module _ (shape : Shape) (found : slice_get shapes s ≡ Some shape) (of : kind_at shapes s ≡ kind.Result) where
    abbrev result_found : IsOfKind kind.Result
    result_found = record { shape = shape; found = found; of = kind_there kind.Result shape found of }

    pub result_parts_are : (d : ResultDef) → shape.def ≡ def.Result d → structure_at shapes s ≡ tagged result_form (single d.t (part_offset_at shapes s) ∷ single d.e (part_offset_at shapes s) ∷ [])
    result_parts_are d same =
        result_structure shapes s shape found d result_found.of same ∙ ap (λ n. tagged result_form (single d.t n ∷ single d.e n ∷ [])) (offset_is kind.Result result_found (def.Result d) same)

    pub always_result : ((d : ResultDef) → shape.def ≡ def.Result d → ⊥) → ⊥
    always_result other = go shape.def refl (defined kind.Result result_found)
      where
        go : (d : Def) → shape.def ≡ d → IsDefinedAs (element_of shapes shape.def) kind.Result d → ⊥
        go (def.Result d) same has = other d same
        go _ same has = has

  -- enums
  pub enum_is : kind_at shapes s ≡ kind.Enum → (bodies : List (List PlacedField)) × (structure_at shapes s ≡ tagged form.Variant bodies)
  enum_is of = let is = shape_there kind.Enum (λ e. cc) of in (arrangements shapes is.shape, structure_is shapes s is.shape is.found kind.Enum is.of)

  -- sequences of elements
  abbrev pub IsSequenceOfOne : Form → Type 0
  IsSequenceOfOne form = (element : ShapeId) × (structure_at shapes s ≡ sequence form (element ∷ []))

  list_by : (is : IsOfKind kind.List) (d : Def) → is.shape.def ≡ d → IsDefinedAs (element_of shapes is.shape.def) kind.List d → IsSequenceOfOne form.List
  list_by is (def.List d) same has = (d.t, list_structure shapes s is.shape is.found d is.of same)
  list_by is _ same has = absurd has

  pub list_is : kind_at shapes s ≡ kind.List → IsSequenceOfOne form.List
  list_is of = let is = shape_there kind.List (λ e. cc) of in list_by is is.shape.def refl (defined kind.List is)

  set_by : (is : IsOfKind kind.Set) (d : Def) → is.shape.def ≡ d → IsDefinedAs (element_of shapes is.shape.def) kind.Set d → IsSequenceOfOne form.Set
  set_by is (def.Set d) same has = (d.t, set_structure shapes s is.shape is.found d is.of same)
  set_by is _ same has = absurd has

  pub set_is : kind_at shapes s ≡ kind.Set → IsSequenceOfOne form.Set
  set_is of = let is = shape_there kind.Set (λ e. cc) of in set_by is is.shape.def refl (defined kind.Set is)

  pub boxed_slice_is : kind_at shapes s ≡ kind.BoxedSlice → IsSequenceOfOne form.BoxedSlice
  boxed_slice_is of =
      let is = shape_there kind.BoxedSlice (λ e. cc) of in
      let has = defined kind.BoxedSlice is in
      (has.0, boxed_slice_structure shapes s is.shape is.found has.0 is.of has.1)

  -- sequences of pairs
  abbrev IsSequenceOfPairs : Type 0
  IsSequenceOfPairs = (key : ShapeId) × ((value : ShapeId) × (structure_at shapes s ≡ sequence form.Map (key ∷ value ∷ [])))

  map_by : (is : IsOfKind kind.Map) (d : Def) → is.shape.def ≡ d → IsDefinedAs (element_of shapes is.shape.def) kind.Map d → IsSequenceOfPairs
  map_by is (def.Map d) same has = (d.k, (d.v, map_structure shapes s is.shape is.found d is.of same))
  map_by is _ same has = absurd has

  pub map_is : kind_at shapes s ≡ kind.Map → IsSequenceOfPairs
  map_is of = let is = shape_there kind.Map (λ e. cc) of in map_by is is.shape.def refl (defined kind.Map is)

  -- boxes of sealed shapes
  module _ {L : Type 0} (m : LeafModel L) (well : IsWellFormed m shapes) where
    has_content : (shape : Shape) → slice_get shapes s ≡ Some shape → is_box_without_content shape.def shape.type_params.items ≡ false
    unfolding is_mismatched
    has_content shape is =
        let fits = false_from_ne_true (is_mismatched (layout_at shapes) shape)
        (λ met. well cause.Mismatch s (slice_get_within shapes s shape is) (subst (OfShape (ShapeMeets m shapes cause.Mismatch s)) (sym is) met)) in
        (or_parts _ _ (or_parts _ _ (or_parts _ _ (or_parts _ _ fits).0).0).0).1

    box_by : (is : IsOfKind kind.Box) (d : Def) → is.shape.def ≡ d → IsDefinedAs (element_of shapes is.shape.def) kind.Box d → IsSequenceOfOne form.Box
    box_by is (def.Pointer d) same has =
        let holds = subst (λ d. is_box_without_content d is.shape.type_params.items ≡ false) same (has_content is.shape is.found) in
        let content = content_by d.known d.pointee is.shape.type_params.items has holds in
        (content.0, box_structure shapes s is.shape is.found d content.0 is.of same content.1)
    box_by is _ same has = absurd has

    pub box_is : kind_at shapes s ≡ kind.Box → IsSequenceOfOne form.Box
    box_is of = let is = shape_there kind.Box (λ e. cc) of in box_by is is.shape.def refl (defined kind.Box is)

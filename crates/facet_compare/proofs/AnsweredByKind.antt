-- Whether a comparison of two values is answered, and the rank of a form, as the code finds them by the kind of the shape.
use Rattle.std.proofs.Common.{◌≡◌, ◌⊎◌, inl, inr, ℕ, ℤ, w64, zero, suc, ◌+◌, ◌<◌, ◌&&◌, Bool, true, false, pos, List, [], ◌∷◌, All, Option, None, Some, length, option_map, slice_get, unwrap_or, refl, sym, ap, ◌∙◌, subst, arith}
use Rattle.std.specs.List.{list_all}
use Rattle.std.specs.Option.{option_map_or, option_to_list}
use Rattle.std.proofs.lemmas.Int.{to_z-of_z}
use lib.Signed.{mag}
use mir.Val.{of_z, to_z}
use Rattle.facet_base.specs.declared.scalar_type.ScalarType.{ScalarType}
use Rattle.facet_base.specs.declared.characteristic.Characteristic.{Characteristic}
use Rattle.facet_base.specs.declared.layout.ShapeId.{ShapeId}
use Rattle.facet_block.specs.Block.{empty_block}
use Rattle.facet_causes.proofs.Front.{AreKnown, parts_front}
use Rattle.facet_causes.proofs.Sealed.{known_by}
use Rattle.facet_causes.specs.Causes.{IsWellFormed}
use Rattle.facet_causes.specs.Reading.{element_of}
use Rattle.facet_causes.specs.declared.cause.SealCause.TheVariants as cause
use Rattle.facet_causes.specs.DistinctVariants.{discriminants_in}
use Rattle.facet_desc.specs.WithoutSpare.{ty_without_spare}
use Rattle.facet_desc.specs.declared.variant.Variant.{Variant}
use Rattle.facet_leaf.specs.LeafModel.{LeafModel}
use Rattle.facet_outline.proofs.SameItems.{discriminants_of_kind_same}
use Rattle.facet_outline.specs.Discriminant.{discriminants_from, discriminants_of_kind}
use Rattle.facet_outline.specs.Part.{parts}
use Rattle.facet_outline.specs.declared.value_kind.ValueKind.{ValueKind}
use Rattle.facet_outline.specs.declared.value_kind.ValueKind.TheVariants as kind
use Rattle.facet_registry.specs.Registry.{offers}
use Rattle.facet_shape.specs.WithoutSpare.{shape_without_spare}
use Rattle.facet_shape.specs.declared.shape.Shape.{Shape}
use Rattle.facet_trees.specs.Answered.{is_answered, is_comparable, rank_at}
use Rattle.facet_trees.specs.Structure.{structure_at, structure_of_kind, tag_of_form}
use Rattle.facet_trees.specs.declared.form.Form.{Form}
use Rattle.facet_values.specs.Place.{start_of}
use Rattle.facet_walk.proofs.SeenKinds.{IsOfKind, elements_here, kind_here, list_element, parts_here, structure_here}
use Rattle.facet_walk.specs.Look.{element_in}

-- what a comparison is answered by: by the kind alone, or by the elements
abbrev pub answer_of_kind : ValueKind → Option Bool
answer_of_kind kind.NoValue = Some false
answer_of_kind kind.Map = Some false
answer_of_kind kind.Set = Some false
answer_of_kind kind.List = None
answer_of_kind kind.BoxedSlice = None
answer_of_kind _ = Some true

-- the kinds that the code puts together
pub never_answered : (k : ValueKind) → (k ≡ kind.NoValue) ⊎ ((k ≡ kind.Map) ⊎ (k ≡ kind.Set)) → answer_of_kind k ≡ Some false
never_answered k (inl is) = ap answer_of_kind is
never_answered k (inr (inl is)) = ap answer_of_kind is
never_answered k (inr (inr is)) = ap answer_of_kind is

pub always_answered : (k : ValueKind)
    → (k ≡ kind.Unit) ⊎ (((l : ScalarType) × (k ≡ kind.Leaf l)) ⊎ ((k ≡ kind.Struct) ⊎ ((k ≡ kind.Array) ⊎ ((k ≡ kind.Enum) ⊎ ((k ≡ kind.Option) ⊎ ((k ≡ kind.Result) ⊎ (k ≡ kind.Box)))))))
    → answer_of_kind k ≡ Some true
always_answered k (inl is) = ap answer_of_kind is
always_answered k (inr (inl (l, is))) = ap answer_of_kind is
always_answered k (inr (inr (inl is))) = ap answer_of_kind is
always_answered k (inr (inr (inr (inl is)))) = ap answer_of_kind is
always_answered k (inr (inr (inr (inr (inl is))))) = ap answer_of_kind is
always_answered k (inr (inr (inr (inr (inr (inl is)))))) = ap answer_of_kind is
always_answered k (inr (inr (inr (inr (inr (inr (inl is))))))) = ap answer_of_kind is
always_answered k (inr (inr (inr (inr (inr (inr (inr is))))))) = ap answer_of_kind is

module _ (shapes : List Shape) (c : Characteristic) where
  comparable_by : (k : ValueKind) (shape : Shape) (answer : Bool) → answer_of_kind k ≡ Some answer → is_comparable shapes (structure_of_kind shapes k shape) c ≡ answer
  comparable_by kind.Unit shape answer is = cc
  comparable_by (kind.Leaf _) shape answer is = cc
  comparable_by kind.Struct shape answer is = cc
  comparable_by kind.Enum shape answer is = cc
  comparable_by kind.Option shape answer is = cc
  comparable_by kind.Result shape answer is = cc
  comparable_by kind.List shape answer is = absurd (cc)
  comparable_by kind.BoxedSlice shape answer is = absurd (cc)
  comparable_by kind.Map shape answer is = cc
  comparable_by kind.Set shape answer is = cc
  comparable_by kind.Array shape answer is = cc
  comparable_by kind.Box shape answer is = cc
  comparable_by kind.NoValue shape answer is = cc

  pub not_answered : (s : ℕ) → offers shapes s c ≡ false → false ≡ is_answered shapes c s
  not_answered s none = sym (ap (λ offered. offered && is_comparable shapes (structure_at shapes s) c) none)

  answered_as : (s : ℕ) (answer : Bool) → offers shapes s c ≡ true → is_comparable shapes (structure_at shapes s) c ≡ answer → answer ≡ is_answered shapes c s
  answered_as s answer offered is = sym (ap (λ offered. offered && is_comparable shapes (structure_at shapes s) c) offered ∙ is)

module _ {L : Type 0} (m : LeafModel L) (shapes : List Shape) (well : IsWellFormed m shapes) (s : ℕ) (shape : Shape) where
  abbrev AreKnownIds : List ShapeId → Type 0
  AreKnownIds ids = All (λ id. id.0 < length shapes) ids

  known : AreKnown shapes
  known = known_by m shapes (λ t under. well cause.UnknownShape t under)

  parts_known : slice_get shapes s ≡ Some (shape_without_spare shape) → AreKnownIds (parts (element_of shapes shape.def) (shape_without_spare shape))
  parts_known here = parts_front shapes shapes (omega arith) (λ t below. refl) known s (shape_without_spare shape) here

  module _ (is : IsOfKind shapes s kind.List shape) where
    list_consists : parts (element_of shapes shape.def) (shape_without_spare shape) ≡ option_to_list (element_in shape.def)
    list_consists = parts_here shapes (start_of {L = L} s (empty_block 0)) kind.List shape is ∙ list_element shape.def (elements_here shapes (start_of {L = L} s (empty_block 0)) kind.List shape is)

    pub list_known : AreKnownIds (option_to_list (element_in shape.def))
    list_known = subst AreKnownIds list_consists (parts_known is.here)

    pub list_answered : (c : Characteristic) → offers shapes s c ≡ true → list_all (λ id. offers shapes id.0 c) (option_to_list (element_in shape.def)) ≡ is_answered shapes c s
    list_answered c offered =
        answered_as shapes c s _ offered
        (ap (λ t. is_comparable shapes t c) (structure_here shapes (start_of {L = L} s (empty_block 0)) kind.List shape is) ∙ ap (list_all (λ id. offers shapes id.0 c)) list_consists)

  module _ (is : IsOfKind shapes s kind.BoxedSlice shape) where
    slice_consists : parts (element_of shapes shape.def) (shape_without_spare shape) ≡ option_to_list (element_of shapes shape.def)
    slice_consists = parts_here shapes (start_of {L = L} s (empty_block 0)) kind.BoxedSlice shape is

    pub slice_known : AreKnownIds (option_to_list (element_of shapes shape.def))
    slice_known = subst AreKnownIds slice_consists (parts_known is.here)

    pub slice_answered : (c : Characteristic) → offers shapes s c ≡ true → list_all (λ id. offers shapes id.0 c) (option_to_list (element_of shapes shape.def)) ≡ is_answered shapes c s
    slice_answered c offered =
        answered_as shapes c s _ offered
        (ap (λ t. is_comparable shapes t c) (structure_here shapes (start_of {L = L} s (empty_block 0)) kind.BoxedSlice shape is) ∙ ap (list_all (λ id. offers shapes id.0 c)) slice_consists)

  pub kind_answered : (k : ValueKind) (answer : Bool) → IsOfKind shapes s k shape → answer_of_kind k ≡ Some answer → (c : Characteristic) → offers shapes s c ≡ true → answer ≡ is_answered shapes c s
  kind_answered k answer is by_kind c offered =
      answered_as shapes c s answer offered
      (ap (λ t. is_comparable shapes t c) (structure_here shapes (start_of {L = L} s (empty_block 0)) k shape is) ∙ comparable_by shapes c k (shape_without_spare shape) answer by_kind)

-- the rank of a form by what the code finds of the shape
pub rank_found : (shapes : List Shape) (s : ℕ) (shape : Shape) (k : ValueKind) → IsOfKind shapes s k shape → (form : Form)
    → rank_at shapes s form ≡ unwrap_or (slice_get (discriminants_of_kind k shape.ty) (tag_of_form form)) (pos (tag_of_form form))
rank_found shapes s shape k is form =
    ap (λ zs. unwrap_or (slice_get zs (tag_of_form form)) (pos (tag_of_form form)))
    (ap (λ o. option_map_or (discriminants_in shapes) o []) is.here ∙ ap (λ j. discriminants_of_kind j (ty_without_spare shape.ty)) (kind_here shapes (start_of {L = ℕ} s (empty_block 0)) k shape is)
    ∙ discriminants_of_kind_same k shape.ty)

-- the discriminant of a variant at an index
pub discriminant_found : (i : ℕ) (variants : List Variant) (k : ℕ) → slice_get (discriminants_from i variants) k ≡ option_map (λ v. unwrap_or v.discriminant (pos (i + k))) (slice_get variants k)
unfolding discriminants_from
discriminant_found i [] k = refl
discriminant_found i (v ∷ variants) zero = ap (λ n. Some (unwrap_or v.discriminant (pos n))) (omega arith)
discriminant_found i (v ∷ variants) (suc k) = discriminant_found (i + 1) variants k ∙ ap (λ n. option_map (λ v. unwrap_or v.discriminant (pos n)) (slice_get variants k)) (omega arith)

pub discriminant_there : (variants : List Variant) (k : ℕ) → slice_get (discriminants_from 0 variants) k ≡ option_map (λ v. unwrap_or v.discriminant (pos k)) (slice_get variants k)
discriminant_there variants k = discriminant_found 0 variants k ∙ ap (λ n. option_map (λ v. unwrap_or v.discriminant (pos n)) (slice_get variants k)) (omega arith)

-- a number of 64 bits is what it is read back as
pub read_back : (z : ℤ) → mag z < 9223372036854775808 → to_z w64 (of_z w64 z) ≡ z
read_back z within = to_z-of_z w64 z (record { sfits = within })

pub same_number : (a b : ℤ) → mag a < 9223372036854775808 → mag b < 9223372036854775808 → of_z w64 a ≡ of_z w64 b → a ≡ b
same_number a b within also same = sym (read_back a within) ∙ ap (to_z w64) same ∙ read_back b also

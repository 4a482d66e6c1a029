-- The values of enums: they are of variants, which are ordered by their discriminants.
use Rattle.std.proofs.Common.{◌≡◌, ℕ, ◌<◌, ℤ, pos, true, int_cmp, List, [], ◌∷◌, Option, None, Some, length, map, option_map, slice_get, unwrap_or, refl, sym, ap, ap₂, ◌∙◌, subst, arith}
use Rattle.std.specs.Ordering.{is_eq}
use Rattle.std.specs.Option.{option_map_or}
use Rattle.std.specs.declared.cmp.Ordering.{Ordering}
use Rattle.std.specs.declared.cmp.Ordering.TheVariants.{Less, Equal, Greater}
use Rattle.std.proofs.lemmas.Bool.{and_from}
use Rattle.std.proofs.lemmas.Bool.Decides.{Decides-int_eq}
use Rattle.std.proofs.lemmas.List.{length-map}
use Rattle.std.proofs.lemmas.Option.{slice_get-map}
use Rattle.facet_base.proofs.Lists.{some_there}
use Rattle.facet_base.specs.declared.characteristic.Characteristic.{Characteristic}
use Rattle.facet_base.specs.declared.scalar_type.ScalarType.{ScalarType}
use Rattle.facet_causes.specs.Arrangement.{arrangements, arrangements_of_kind}
use Rattle.facet_causes.specs.DistinctVariants.{discriminants_in}
use Rattle.facet_causes.specs.Reading.{kind_in, layout_at}
use Rattle.facet_desc.specs.declared.enum_type.EnumType.{EnumType}
use Rattle.facet_desc.specs.declared.field.Field.{Field}
use Rattle.facet_desc.specs.declared.ty.Ty.TheVariants as ty
use Rattle.facet_desc.specs.declared.ty.UserType.TheVariants as user
use Rattle.facet_desc.specs.declared.variant.Variant.{Variant}
use Rattle.facet_leaf.specs.LeafModel.{LeafModel}
use Rattle.facet_outline.specs.Discriminant.{discriminants_of_kind}
use Rattle.facet_outline.specs.Field.{bodies, placed}
use Rattle.facet_outline.specs.declared.placed_fields.PlacedField.{PlacedField}
use Rattle.facet_outline.specs.declared.value_kind.ValueKind.{ValueKind}
use Rattle.facet_outline.specs.declared.value_kind.ValueKind.TheVariants as kind
use Rattle.facet_registry.specs.Registry.{offers}
use Rattle.facet_shape.specs.declared.shape.Shape.{Shape}
use Rattle.facet_trees.specs.Answered.{answer_if, is_answered, is_comparable, rank_at}
use Rattle.facet_trees.specs.Enums.{IsOfVariant}
use Rattle.facet_trees.specs.Fits.{AllFit, Fits, HasForm}
use Rattle.facet_trees.specs.Order.{Answer, Which, capability_of, order_then, ordered, ordering, ordering_of_parts}
use Rattle.facet_trees.specs.Structure.{no_values, scalar, tagged, body_under, part_shapes, structure_at, structure_of_kind, tag_of_form}
use Rattle.facet_trees.specs.Value.{Value, Values, leaf, node, count}
use Rattle.facet_trees.specs.declared.form.Form.{Form}
use Rattle.facet_trees.specs.declared.form.Form.TheVariants as form

abbrev bodies_of : EnumType → List (List PlacedField)
bodies_of e = map (λ (v : Variant). placed v.body) e.variants.items

fields_placed : (fields : List Field) → map (λ (part : PlacedField). part.shape.0) (map (λ (f : Field). record { shape = f.shape; offset = f.offset }) fields) ≡ map (λ (f : Field). f.shape.0) fields
fields_placed [] = refl
fields_placed (f ∷ fields) = ap (λ rest. f.shape.0 ∷ rest) (fields_placed fields)

not_equal : (order : Ordering) (next : Answer) → (order ≡ Equal → ⊥) → order_then (ordered order) next ≡ ordered order
not_equal Less next apart = refl
not_equal Equal next apart = absurd (apart refl)
not_equal Greater next apart = refl

not_leaf : (e : EnumType) (k : ScalarType) → tagged form.Variant (bodies_of e) ≡ scalar k → ⊥
not_leaf e k same = cc

module _ (shapes : List Shape) where
  enum_structure : (s : ℕ) (shape : Shape) (e : EnumType) → slice_get shapes s ≡ Some shape → kind_in shapes shape ≡ kind.Enum → shape.ty ≡ ty.User (user.Enum e) → structure_at shapes s ≡ tagged form.Variant (bodies_of e)
  unfolding structure_at arrangements
  enum_structure s shape e here is type =
      ap (λ o. option_map_or (λ t. structure_of_kind shapes (kind_in shapes t) t) o no_values) here
      ∙ ap (λ k. structure_of_kind shapes k shape) is
      ∙ ap (λ k. tagged form.Variant (arrangements_of_kind (layout_at shapes) k shape.def shape.ty)) is
      ∙ ap (λ t. tagged form.Variant (bodies kind.Enum t)) type

  -- what has a discriminant is an enum, and can be compared
  comparable : (c : Characteristic) (k : ValueKind) (shape : Shape) (i : ℕ) (a : ℤ) → slice_get (discriminants_of_kind k shape.ty) i ≡ Some a → is_comparable shapes (structure_of_kind shapes k shape) c ≡ true
  comparable c kind.Enum shape i a there = refl
  comparable c kind.Unit shape i a there = refl
  comparable c (kind.Leaf _) shape i a there = refl
  comparable c kind.Struct shape i a there = refl
  comparable c kind.Array shape i a there = refl
  comparable c kind.Option shape i a there = refl
  comparable c kind.Result shape i a there = refl
  comparable c kind.Box shape i a there = refl
  comparable c kind.List shape i a there = absurd (cc)
  comparable c kind.BoxedSlice shape i a there = absurd (cc)
  comparable c kind.Map shape i a there = absurd (cc)
  comparable c kind.Set shape i a there = absurd (cc)
  comparable c kind.NoValue shape i a there = absurd (cc)

  enum_comparable : (c : Characteristic) (s : ℕ) (shape : Shape) (i : ℕ) (a : ℤ) → slice_get shapes s ≡ Some shape → slice_get (discriminants_in shapes shape) i ≡ Some a → is_comparable shapes (structure_at shapes s) c ≡ true
  unfolding structure_at
  enum_comparable c s shape i a here there =
      ap (λ o. is_comparable shapes (option_map_or (λ t. structure_of_kind shapes (kind_in shapes t) t) o no_values) c) here ∙ comparable c (kind_in shapes shape) shape i a there

  variant_rank : (s : ℕ) (shape : Shape) (i : ℕ) (a : ℤ) → slice_get shapes s ≡ Some shape → slice_get (discriminants_in shapes shape) i ≡ Some a → rank_at shapes s (form.Variant i) ≡ a
  variant_rank s shape i a here there =
      ap (λ o. unwrap_or (slice_get (option_map_or (discriminants_in shapes) o []) i) (pos i)) here ∙ ap (λ o. unwrap_or o (pos i)) there

module _ {L : Type 0} (m : LeafModel L) (shapes : List Shape) where
  of_variant : (e : EnumType) (own : Form) (vs : Values L) → own ≡ form.Variant (tag_of_form own) → (o : Option Variant) → slice_get e.variants.items (tag_of_form own) ≡ o → tag_of_form own < length e.variants.items
      → AllFit m shapes (map (λ part. part.shape.0) (body_under (bodies_of e) (tag_of_form own))) vs → IsOfVariant m shapes e (node own vs)
  of_variant e own vs is None none below fit = absurd (some_there e.variants.items (tag_of_form own) below (sym none))
  of_variant e own vs is (Some variant) here below fit =
      let body = ap (λ o. unwrap_or o []) (slice_get-map (λ (v : Variant). placed v.body) e.variants.items (tag_of_form own) ∙ ap (option_map (λ (v : Variant). placed v.body)) here) in
      record {
        index = tag_of_form own;
        variant = variant;
        parts = vs;
        there = here;
        is = ap (λ f. node f vs) is;
        fit = subst (λ ids. AllFit m shapes ids vs) (ap (map (λ part. part.shape.0)) body ∙ fields_placed variant.body.fields.items) fit;
      }

  -- a value of an enum is of one of its variants
  pub values_are_of_variants : (s : ℕ) (shape : Shape) (e : EnumType) (v : Value L) → slice_get shapes s ≡ Some shape → kind_in shapes shape ≡ kind.Enum → shape.ty ≡ ty.User (user.Enum e)
      → Fits m shapes s v → IsOfVariant m shapes e v
  values_are_of_variants s shape e (leaf x) here is type fits = absurd (not_leaf e (m.kind x) (sym (enum_structure shapes s shape e here is type) ∙ fits))
  values_are_of_variants s shape e (node form vs) here is type fits =
      let structure = enum_structure shapes s shape e here is type in
      let has = subst (λ t. HasForm t form) structure fits.0 in
      let below : tag_of_form form < length e.variants.items = omega (arith, has.0, length-map e.variants.items (λ (v : Variant). placed v.body)) in
      of_variant e form vs has.1 (slice_get e.variants.items (tag_of_form form)) refl below (subst (λ t. AllFit m shapes (part_shapes t form (count vs)) vs) structure fits.1)

  -- variants are ordered as their discriminants are
  pub ordered_by_discriminants : (which : Which) (s i j : ℕ) (a b : ℤ) (shape : Shape) (vs ws : Values L) → slice_get shapes s ≡ Some shape
      → slice_get (discriminants_in shapes shape) i ≡ Some a → slice_get (discriminants_in shapes shape) j ≡ Some b → (a ≡ b → ⊥) → offers shapes s (capability_of which) ≡ true
      → ordering m shapes which s (node (form.Variant i) vs) (node (form.Variant j) ws) ≡ ordered (int_cmp a b)
  unfolding ordering
  ordered_by_discriminants which s i j a b shape vs ws here first second apart offered =
      let parts = ordering_of_parts m shapes which (part_shapes (structure_at shapes s) (form.Variant i) (count vs)) vs ws in
      let ranks = ap₂ int_cmp (variant_rank shapes s shape i a here first) (variant_rank shapes s shape j b here second) in
      let answered : is_answered shapes (capability_of which) s ≡ true = and_from (offers shapes s (capability_of which)) (is_comparable shapes (structure_at shapes s) (capability_of which)) offered (enum_comparable shapes (capability_of which) s shape i a here first) in
      ap (λ is_there. answer_if is_there (order_then (ordered (int_cmp (rank_at shapes s (form.Variant i)) (rank_at shapes s (form.Variant j)))) parts)) answered
      ∙ ap (λ order. order_then (ordered order) parts) ranks
      ∙ not_equal (int_cmp a b) parts (λ same. apart ((Decides-int_eq a b).0 (ap is_eq same)))

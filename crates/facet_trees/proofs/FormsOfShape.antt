-- Two forms that values of a shape can be of are one form where their ranks are equal.
use Rattle.std.proofs.Common.{◌≡◌, ◌⊎◌, ℕ, suc, ◌+◌, ◌<◌, ℤ, pos, List, [], ◌∷◌, Option, None, Some, length, slice_get, unwrap_or, refl, sym, ap, ◌∙◌, subst, inl, inr, arith}
use Rattle.std.specs.Option.{option_map_or}
use Rattle.std.proofs.lemmas.List.{length-map}
use Rattle.std.proofs.lemmas.Option.{slice_get-get_or}
use Rattle.facet_base.proofs.Lists.{All_at}
use Rattle.facet_causes.specs.Arrangement.{arrangements}
use Rattle.facet_causes.specs.Causes.{IsWellFormed}
use Rattle.facet_causes.specs.DistinctVariants.{VariantsAreDistinct, discriminants_in}
use Rattle.facet_causes.specs.Reading.{kind_in}
use Rattle.facet_causes.proofs.VariantsDistinct.{variants_are_distinct}
use Rattle.facet_desc.specs.declared.ty.Ty.{Ty}
use Rattle.facet_desc.specs.declared.ty.Ty.TheVariants as ty
use Rattle.facet_desc.specs.declared.ty.UserType.TheVariants as user
use Rattle.facet_desc.specs.declared.variant.Variant.{Variant}
use Rattle.facet_leaf.specs.LeafModel.{LeafModel}
use Rattle.facet_outline.specs.Discriminant.{discriminants_from, discriminants_of_kind}
use Rattle.facet_outline.specs.Field.{bodies, placed}
use Rattle.facet_outline.specs.declared.placed_fields.PlacedField.{PlacedField}
use Rattle.facet_outline.specs.declared.value_kind.ValueKind.{ValueKind}
use Rattle.facet_outline.specs.declared.value_kind.ValueKind.TheVariants as kind
use Rattle.facet_shape.specs.declared.shape.Shape.{Shape}
use Rattle.facet_trees.specs.Answered.{rank_at}
use Rattle.facet_trees.specs.Fits.{HasForm}
use Rattle.facet_trees.specs.Structure.{Structure, no_values, scalar, plain, tagged, sequence, structure_at, structure_of_kind, tag_of_form}
use Rattle.facet_trees.specs.declared.form.Form.{Form}

-- each number stands at one index
abbrev AreDistinct : List ℤ → Type 0
AreDistinct zs = (i j : ℕ) (z : ℤ) → slice_get zs i ≡ Some z → slice_get zs j ≡ Some z → i ≡ j

-- the number at a tag, or else the tag
abbrev number_at : List ℤ → ℕ → ℤ
number_at zs tag = unwrap_or (slice_get zs tag) (pos tag)

none_there : {P : Type 0} (i : ℕ) (z : ℤ) → slice_get [] i ≡ Some z → P
none_there i z there = absurd (cc)

at_tag : (zs : List ℤ) (tag : ℕ) → tag < length zs → slice_get zs tag ≡ Some (number_at zs tag)
at_tag zs tag below =
    let there = slice_get-get_or zs tag (pos tag) below in
    there ∙ ap (λ o. Some (unwrap_or o (pos tag))) (sym there)

same_pos : (a b : ℕ) → pos a ≡ pos b → a ≡ b
same_pos a b same = cc

-- tags with one number are one
same_tag : (zs : List ℤ) (n a b : ℕ) → AreDistinct zs → (zs ≡ []) ⊎ (length zs ≡ n) → a < n → b < n → number_at zs a ≡ number_at zs b → a ≡ b
same_tag zs n a b distinct (inl none) below under same = same_pos a b (subst (λ (xs : List ℤ). number_at xs a ≡ number_at xs b) none same)
same_tag zs n a b distinct (inr all) below under same =
    distinct a b (number_at zs b) (at_tag zs a (omega (arith, all, below)) ∙ ap Some same) (at_tag zs b (omega (arith, all, under)))

discriminant_each : (i : ℕ) (variants : List Variant) → length (discriminants_from i variants) ≡ length variants
unfolding discriminants_from
discriminant_each i [] = refl
discriminant_each i (v ∷ variants) = ap suc (discriminant_each (i + 1) variants)

-- an enum has a discriminant for each of its lists of fields
body_each : (t : Ty) → length (discriminants_of_kind kind.Enum t) ≡ length (bodies kind.Enum t)
body_each (ty.User (user.Enum e)) = discriminant_each 0 e.variants.items ∙ sym (length-map e.variants.items (λ (v : Variant). placed v.body))
body_each (ty.User (user.Struct _)) = refl
body_each (ty.User user.Opaque) = refl
body_each ty.Undefined = refl
body_each (ty.Primitive _) = refl
body_each (ty.Sequence _) = refl
body_each (ty.Pointer _) = refl

-- the lists of parts under the tags
abbrev bodies_in : Structure → List (List PlacedField)
bodies_in (tagged forms bodies) = bodies
bodies_in _ = []

abbrev IsTagged : Structure → Type 0
IsTagged (tagged forms bodies) = Unit {0}
IsTagged _ = ⊥

module _ (shapes : List Shape) where
  -- the discriminants of the values of the shape under an id
  abbrev discriminants_at : ℕ → List ℤ
  discriminants_at s = option_map_or (discriminants_in shapes) (slice_get shapes s) []

  of_kind : (k : ValueKind) (shape : Shape) → kind_in shapes shape ≡ k → IsTagged (structure_of_kind shapes k shape)
      → (discriminants_of_kind k shape.ty ≡ []) ⊎ (length (discriminants_of_kind k shape.ty) ≡ length (bodies_in (structure_of_kind shapes k shape)))
  unfolding arrangements
  of_kind kind.Enum shape is has = inr (rw is (body_each shape.ty))
  of_kind kind.Option shape is has = inl refl
  of_kind kind.Result shape is has = inl refl
  of_kind kind.Unit shape is has = absurd has
  of_kind (kind.Leaf _) shape is has = absurd has
  of_kind kind.Struct shape is has = absurd has
  of_kind kind.Array shape is has = absurd has
  of_kind kind.List shape is has = absurd has
  of_kind kind.BoxedSlice shape is has = absurd has
  of_kind kind.Map shape is has = absurd has
  of_kind kind.Set shape is has = absurd has
  of_kind kind.Box shape is has = absurd has
  of_kind kind.NoValue shape is has = absurd has

  -- under each tag there is a discriminant, or there are none
  tags_known : (s : ℕ) → IsTagged (structure_at shapes s) → (discriminants_at s ≡ []) ⊎ (length (discriminants_at s) ≡ length (bodies_in (structure_at shapes s)))
  unfolding structure_at
  tags_known s has = go (slice_get shapes s) has
    where
      go : (o : Option Shape) → IsTagged (option_map_or (λ shape. structure_of_kind shapes (kind_in shapes shape) shape) o no_values)
          → (option_map_or (discriminants_in shapes) o [] ≡ []) ⊎ (length (option_map_or (discriminants_in shapes) o []) ≡ length (bodies_in (option_map_or (λ shape. structure_of_kind shapes (kind_in shapes shape) shape) o no_values)))
      go None has = absurd has
      go (Some shape) has = of_kind (kind_in shapes shape) shape refl has

module _ {L : Type 0} (m : LeafModel L) (shapes : List Shape) (well : IsWellFormed m shapes) where
  distinct_at : (s : ℕ) → AreDistinct (discriminants_at shapes s)
  distinct_at s = go (slice_get shapes s) refl
    where
      go : (o : Option Shape) → slice_get shapes s ≡ o → AreDistinct (option_map_or (discriminants_in shapes) o [])
      go None is = λ i j z first second. none_there i z first
      go (Some shape) is = (All_at (VariantsAreDistinct shapes) shapes s shape (variants_are_distinct m shapes well) is).one

  -- two forms that values of a shape can be of, and that have one rank, are one
  pub same_form : (s : ℕ) (one other : Form) → HasForm (structure_at shapes s) one → HasForm (structure_at shapes s) other → rank_at shapes s one ≡ rank_at shapes s other → one ≡ other
  same_form s one other has also same = go (structure_at shapes s) (tags_known shapes s) has also
    where
      go : (structure : Structure) → (IsTagged structure → (discriminants_at shapes s ≡ []) ⊎ (length (discriminants_at shapes s) ≡ length (bodies_in structure)))
          → HasForm structure one → HasForm structure other → one ≡ other
      go no_values known has also = absurd has
      go (scalar _) known has also = absurd has
      go (plain own body) known has also = has ∙ sym also
      go (sequence own ids) known has also = has ∙ sym also
      go (tagged forms bodies) known has also =
          has.1 ∙ ap forms (same_tag (discriminants_at shapes s) (length bodies) (tag_of_form one) (tag_of_form other) (distinct_at s) (known tt) has.0 also.0 same) ∙ sym also.1

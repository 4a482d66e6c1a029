-- Which forms the values of each structure can have.
use Rattle.std.proofs.Common.{◌≡◌, ℕ, zero, suc, true, false, List, Option, None, Some, slice_get, refl}
use Rattle.std.specs.Option.{option_map_or}
use Rattle.facet_causes.specs.Reading.{kind_in}
use Rattle.facet_make.specs.Clone.{is_cloned}
use Rattle.facet_make.specs.Cloning.{cloning_of}
use Rattle.facet_make.specs.declared.cloning.Cloning.TheVariants as cloning
use Rattle.facet_outline.specs.declared.value_kind.ValueKind.{ValueKind}
use Rattle.facet_outline.specs.declared.value_kind.ValueKind.TheVariants as kind
use Rattle.facet_shape.specs.declared.shape.Shape.{Shape}
use Rattle.facet_trees.specs.Structure.{Structure, no_values, option_form, plain, result_form, sequence, tagged, structure_at, structure_of_kind}
use Rattle.facet_trees.specs.declared.form.Form.TheVariants as form

-- without a tag the parts alone are cloned; with one the form that is cloned is the variant of the tag; sequences aren't cloned
abbrev pub SuitsForms : Structure → Type 0
SuitsForms (plain form body) = cloning.Parts ≡ cloning_of form
SuitsForms (tagged forms bodies) = (tag : ℕ) → is_cloned (forms tag) ≡ true → forms tag ≡ form.Variant tag
SuitsForms (sequence form ids) = is_cloned form ≡ false
SuitsForms _ = Unit {0}

option_suits : (tag : ℕ) → is_cloned (option_form tag) ≡ true → option_form tag ≡ form.Variant tag
option_suits zero is = absurd (cc)
option_suits (suc tag) is = absurd (cc)

result_suits : (tag : ℕ) → is_cloned (result_form tag) ≡ true → result_form tag ≡ form.Variant tag
result_suits zero is = absurd (cc)
result_suits (suc tag) is = absurd (cc)

module _ (shapes : List Shape) where
  suits_kind : (k : ValueKind) (shape : Shape) → SuitsForms (structure_of_kind shapes k shape)
  suits_kind kind.Unit shape = refl
  suits_kind (kind.Leaf _) shape = tt
  suits_kind kind.Struct shape = refl
  suits_kind kind.Array shape = refl
  suits_kind kind.Enum shape = λ tag is. refl
  suits_kind kind.Option shape = option_suits
  suits_kind kind.Result shape = result_suits
  suits_kind kind.List shape = refl
  suits_kind kind.BoxedSlice shape = refl
  suits_kind kind.Map shape = refl
  suits_kind kind.Set shape = refl
  suits_kind kind.Box shape = refl
  suits_kind kind.NoValue shape = tt

  pub suits_forms : (s : ℕ) → SuitsForms (structure_at shapes s)
  unfolding structure_at
  suits_forms s = go (slice_get shapes s)
    where
      go : (o : Option Shape) → SuitsForms (option_map_or (λ shape. structure_of_kind shapes (kind_in shapes shape) shape) o no_values)
      go None = tt
      go (Some shape) = suits_kind (kind_in shapes shape) shape

-- Each tag of a value is that of the form which it stands for.
use Rattle.std.proofs.Common.{◌≡◌, ℕ, zero, suc, ◌<◌, ◌≤◌, List, length, Option, None, Some, slice_get, refl, sym, subst, arith}
use Rattle.std.specs.Option.{option_map_or}
use Rattle.facet_base.specs.declared.layout.ShapeId.{ShapeId}
use Rattle.facet_base.specs.declared.layout.ShapeLayout.{ShapeLayout}
use Rattle.facet_causes.specs.Arrangement.{arrangements, arrangements_of_kind}
use Rattle.facet_causes.specs.Reading.{kind_in, layout_at}
use Rattle.facet_def.specs.declared.def.Def.{Def}
use Rattle.facet_def.specs.declared.def.Def.TheVariants as def
use Rattle.facet_desc.specs.declared.ty.Ty.{Ty}
use Rattle.facet_outline.specs.declared.value_kind.ValueKind.{ValueKind}
use Rattle.facet_outline.specs.declared.value_kind.ValueKind.TheVariants as kind
use Rattle.facet_shape.specs.declared.shape.Shape.{Shape}
use Rattle.facet_trees.specs.Structure.{Structure, no_values, option_form, result_form, structure_at, structure_of_kind, tag_of_form, tagged}

-- the forms of the tags of a structure have these tags
abbrev pub AreNamedByTags : Structure → Type 0
AreNamedByTags (tagged forms bodies) = (tag : ℕ) → tag < length bodies → tag_of_form (forms tag) ≡ tag
AreNamedByTags _ = Unit {0}

option_tag : (n tag : ℕ) → n ≤ 2 → tag < n → tag_of_form (option_form tag) ≡ tag
option_tag n zero few below = refl
option_tag n (suc zero) few below = refl
option_tag n (suc (suc tag)) few below = absurd (omega (arith, few, below))

result_tag : (n tag : ℕ) → n ≤ 2 → tag < n → tag_of_form (result_form tag) ≡ tag
result_tag n zero few below = refl
result_tag n (suc zero) few below = refl
result_tag n (suc (suc tag)) few below = absurd (omega (arith, few, below))

two_of_option : (layouts : ShapeId → ShapeLayout) (d : Def) (t : Ty) → length (arrangements_of_kind layouts kind.Option d t) ≤ 2
two_of_option layouts (def.Option o) t = omega arith
two_of_option layouts _ t = omega arith

two_of_result : (layouts : ShapeId → ShapeLayout) (d : Def) (t : Ty) → length (arrangements_of_kind layouts kind.Result d t) ≤ 2
two_of_result layouts (def.Result r) t = omega arith
two_of_result layouts _ t = omega arith

module _ (shapes : List Shape) where
  named_by_kind : (of : ValueKind) (shape : Shape) → kind_in shapes shape ≡ of → AreNamedByTags (structure_of_kind shapes of shape)
  unfolding arrangements
  named_by_kind kind.Enum shape is = λ tag below. refl
  named_by_kind kind.Option shape is = λ tag below.
      option_tag (length (arrangements shapes shape)) tag
      (subst (λ k. length (arrangements_of_kind (layout_at shapes) k shape.def shape.ty) ≤ 2) (sym is) (two_of_option (layout_at shapes) shape.def shape.ty)) below
  named_by_kind kind.Result shape is = λ tag below.
      result_tag (length (arrangements shapes shape)) tag
      (subst (λ k. length (arrangements_of_kind (layout_at shapes) k shape.def shape.ty) ≤ 2) (sym is) (two_of_result (layout_at shapes) shape.def shape.ty)) below
  named_by_kind _ shape is = tt

  named_found : (found : Option Shape) → AreNamedByTags (option_map_or (λ shape. structure_of_kind shapes (kind_in shapes shape) shape) found no_values)
  named_found None = tt
  named_found (Some shape) = named_by_kind (kind_in shapes shape) shape refl

  pub named_by_tags : (s : ℕ) → AreNamedByTags (structure_at shapes s)
  unfolding structure_at
  named_by_tags s = named_found (slice_get shapes s)

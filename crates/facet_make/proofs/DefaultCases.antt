-- The default of a shape, by its structure.
use Rattle.std.proofs.Common.{◌≡◌, ℕ, zero, suc, ◌-◌, ◌≤◌, Bool, true, false, if◌then◌else◌, List, [], refl, ap, ◌∙◌, arith}
use Rattle.facet_base.specs.declared.characteristic.Characteristic.TheVariants as trait
use Rattle.facet_leaf.specs.LeafModel.{LeafModel}
use Rattle.facet_make.specs.Default.{default_by, default_case}
use Rattle.facet_make.specs.Made.{refused}
use Rattle.facet_registry.specs.Registry.{offers}
use Rattle.facet_shape.specs.declared.shape.Shape.{Shape}
use Rattle.facet_trees.specs.Structure.{Structure, structure_at}

if_false : {A : Type 0} (test : Bool) (x y : A) → test ≡ false → (if test then x else y) ≡ y
if_false true x y is = absurd (cc)
if_false false x y is = refl

if_true : {A : Type 0} (test : Bool) (x y : A) → test ≡ true → (if test then x else y) ≡ x
if_true true x y is = refl
if_true false x y is = absurd (cc)

module _ {L : Type 0} (m : LeafModel L) (shapes : List Shape) where
  pub case_too_deep : (s : ℕ) → default_case m shapes 0 s ≡ refused []
  unfolding default_case
  case_too_deep s = refl

  -- without the capability there is none
  pub case_unoffered : (levels s : ℕ) → offers shapes s trait.Default ≡ false → default_case m shapes levels s ≡ refused []
  unfolding default_case
  case_unoffered zero s is = refl
  case_unoffered (suc levels) s is = if_false (offers shapes s trait.Default) _ _ is

  -- with it, it goes by the structure
  pub case_offered : (levels s : ℕ) (st : Structure) → 1 ≤ levels → offers shapes s trait.Default ≡ true → structure_at shapes s ≡ st
      → default_case m shapes levels s ≡ default_by m shapes (default_case m shapes (levels - 1)) st
  unfolding default_case
  case_offered zero s st deep is of = absurd (omega arith)
  case_offered (suc levels) s st deep is of =
      let less : levels ≡ suc levels - 1 = omega arith in
      if_true (offers shapes s trait.Default) _ _ is
      ∙ ap (default_by m shapes (default_case m shapes levels)) of
      ∙ ap (λ n. default_by m shapes (default_case m shapes n) st) less

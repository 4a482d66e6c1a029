-- The laws of clones.
use Rattle.std.proofs.Common.{◌≡◌, ◌⊎◌, ℕ, suc, ◌==◌, ◌&&◌, Bool, true, false, if◌then◌else◌, int_eq, List, [], ◌∷◌, Option, None, Some, length, inl, inr, refl, sym, ap, ◌∙◌, subst, arith, length-append, eq-eqb}
use Rattle.std.proofs.lemmas.Bool.{and_from, and_parts}
use Rattle.std.proofs.lemmas.Bool.Decides.{Decides-int_eq}
use Rattle.facet_base.specs.declared.characteristic.Characteristic.TheVariants as trait
use Rattle.facet_causes.specs.Causes.{IsWellFormed}
use Rattle.facet_leaf.specs.LeafLaws.{LeafLaws}
use Rattle.facet_leaf.specs.LeafModel.{LeafModel}
use Rattle.facet_make.proofs.MadeInOrder.{each_made, first_made, node_made, none_made, offered_made}
use Rattle.facet_make.proofs.OfferedLeaves.{leaves_can}
use Rattle.facet_make.specs.Clone.{clone_case, clone_cases, is_cloned}
use Rattle.facet_make.specs.Made.{made, refused, in_order, node_of}
use Rattle.facet_registry.specs.Registry.{offers}
use Rattle.facet_shape.specs.declared.shape.Shape.{Shape}
use Rattle.facet_trees.specs.Answered.{answer_if, is_answered, is_comparable, rank_at}
use Rattle.facet_trees.specs.Equal.{equal_then, equality, equality_of_parts}
use Rattle.facet_trees.specs.Fits.{AllFit, Fits}
use Rattle.facet_trees.specs.Structure.{part_shapes, scalar, structure_at}
use Rattle.facet_trees.specs.Value.{Value, Values, count, depth, greatest_depth, leaf, leaves, leaves_of_parts, node, none, more}

-- the second value has as many leaves and levels as the first
pub record HasSameSize {L : Type 0} (v w : Value L) : Type 0 where
  pub leaves : length (leaves w) ≡ length (leaves v)
  pub levels : depth w ≡ depth v

record HaveSameSize {L : Type 0} (vs ws : Values L) : Type 0 where
  leaves : length (leaves_of_parts ws) ≡ length (leaves_of_parts vs)
  levels : greatest_depth ws ≡ greatest_depth vs

-- there is no answer, or it is that the two are equal
abbrev pub NotUnequal : Option Bool → Type 0
NotUnequal answer = (answer ≡ None) ⊎ (answer ≡ Some true)

not_unequal_if : (is_there : Bool) (answer : Option Bool) → (is_there ≡ true → NotUnequal answer) → NotUnequal (answer_if is_there answer)
not_unequal_if true answer is = is refl
not_unequal_if false answer is = inl refl

not_unequal_test : (test : Bool) (answer : Option Bool) → test ≡ true → NotUnequal answer → NotUnequal (if test then answer else Some false)
not_unequal_test true answer is not_unequal = not_unequal
not_unequal_test false answer is not_unequal = absurd (cc)

not_unequal_then : (first next : Option Bool) → NotUnequal first → NotUnequal next → NotUnequal (equal_then first next)
not_unequal_then None next is also = inl refl
not_unequal_then (Some true) next is also = also
not_unequal_then (Some false) next (inl is) also = absurd (cc)
not_unequal_then (Some false) next (inr is) also = absurd (cc)

module _ {L : Type 0} (m : LeafModel L) (shapes : List Shape) where
  -- without the capability there is none
  pub no_clone : (s : ℕ) (v : Value L) → offers shapes s trait.Clone ≡ false → clone_case m shapes s v ≡ refused []
  unfolding clone_case
  no_clone s (leaf x) none_offered = ap (λ b. if b then made (leaf (m.cloned x)) else refused []) none_offered
  no_clone s (node form vs) none_offered =
      ap (λ b. if b && is_cloned form then node_of form (in_order none (clone_cases m shapes (part_shapes (structure_at shapes s) form (count vs)) vs)) else refused []) none_offered

  mutual
    unfolding clone_case clone_cases

    -- a clone has as many leaves and levels
    pub clone_size : (s : ℕ) (v w : Value L) → Fits m shapes s v → clone_case m shapes s v ≡ made w → HasSameSize v w
    clone_size s (leaf x) w fits e =
        let is = (offered_made (offers shapes s trait.Clone) (made (leaf (m.cloned x))) w e).1 in
        let same : leaf (m.cloned x) ≡ w = cc in
        subst (HasSameSize (leaf x)) same (record { leaves = refl; levels = refl })
    clone_size s (node form vs) w fits e =
        let cases = clone_cases m shapes (part_shapes (structure_at shapes s) form (count vs)) vs in
        let made_node = node_made form cases w (offered_made (offers shapes s trait.Clone && is_cloned form) (node_of form (in_order none cases)) w e).1 in
        let parts = clone_sizes (part_shapes (structure_at shapes s) form (count vs)) vs made_node.parts fits.1 made_node.is in
        subst (HasSameSize (node form vs)) made_node.value (record { leaves = parts.leaves; levels = ap suc parts.levels })

    clone_sizes : (ss : List ℕ) (vs ws : Values L) → AllFit m shapes ss vs → clone_cases m shapes ss vs ≡ each_made ws → HaveSameSize vs ws
    clone_sizes [] none none fit e = record { leaves = refl; levels = refl }
    clone_sizes [] none (more w ws) fit e = absurd (cc)
    clone_sizes [] (more v vs) ws fit e = absurd fit
    clone_sizes (s ∷ ss) none ws fit e = absurd fit
    clone_sizes (s ∷ ss) (more v vs) none fit e = absurd (none_made (clone_case m shapes s v) (clone_cases m shapes ss vs) e)
    clone_sizes (s ∷ ss) (more v vs) (more w ws) fit e =
        let both = first_made (clone_case m shapes s v) (clone_cases m shapes ss vs) w ws e in
        let first = clone_size s v w fit.0 both.0 in
        let rest = clone_sizes ss vs ws fit.1 both.1 in
        record {
          leaves = let a = first.leaves in let b = rest.leaves in omega (arith, length-append (leaves w) (leaves_of_parts ws), length-append (leaves v) (leaves_of_parts vs));
          levels = let a = first.levels in let b = rest.levels in omega arith;
        }

  -- there are as many parts
  clone_count : (ss : List ℕ) (vs ws : Values L) → AllFit m shapes ss vs → clone_cases m shapes ss vs ≡ each_made ws → count vs ≡ count ws
  unfolding clone_cases
  clone_count [] none none fit e = refl
  clone_count [] none (more w ws) fit e = absurd (cc)
  clone_count [] (more v vs) ws fit e = absurd fit
  clone_count (s ∷ ss) none ws fit e = absurd fit
  clone_count (s ∷ ss) (more v vs) none fit e = absurd (none_made (clone_case m shapes s v) (clone_cases m shapes ss vs) e)
  clone_count (s ∷ ss) (more v vs) (more w ws) fit e =
      ap suc (clone_count ss vs ws fit.1 (first_made (clone_case m shapes s v) (clone_cases m shapes ss vs) w ws e).1)

  module _ (well : IsWellFormed m shapes) (laws : LeafLaws m) where
    mutual
      unfolding clone_case clone_cases

      -- a clone is a value of its shape
      pub clone_fits : (s : ℕ) (v w : Value L) → Fits m shapes s v → clone_case m shapes s v ≡ made w → Fits m shapes s w
      clone_fits s (leaf x) w fits e =
          let is = offered_made (offers shapes s trait.Clone) (made (leaf (m.cloned x))) w e in
          let same : leaf (m.cloned x) ≡ w = (let made_is = is.1 in cc) in
          let can = leaves_can m shapes well s (m.kind x) fits trait.Clone is.0 in
          subst (Fits m shapes s) same (fits ∙ ap scalar (sym (laws.cloned_kind x can)))
      clone_fits s (node form vs) w fits e =
          let ss = part_shapes (structure_at shapes s) form (count vs) in
          let cases = clone_cases m shapes ss vs in
          let made_node = node_made form cases w (offered_made (offers shapes s trait.Clone && is_cloned form) (node_of form (in_order none cases)) w e).1 in
          let many = clone_count ss vs made_node.parts fits.1 made_node.is in
          subst (Fits m shapes s) made_node.value
          (fits.0, subst (λ n. AllFit m shapes (part_shapes (structure_at shapes s) form n) made_node.parts) many (clones_fit ss vs made_node.parts fits.1 made_node.is))

      clones_fit : (ss : List ℕ) (vs ws : Values L) → AllFit m shapes ss vs → clone_cases m shapes ss vs ≡ each_made ws → AllFit m shapes ss ws
      clones_fit [] none none fit e = tt
      clones_fit [] none (more w ws) fit e = absurd (cc)
      clones_fit [] (more v vs) ws fit e = absurd fit
      clones_fit (s ∷ ss) none ws fit e = absurd fit
      clones_fit (s ∷ ss) (more v vs) none fit e = absurd (none_made (clone_case m shapes s v) (clone_cases m shapes ss vs) e)
      clones_fit (s ∷ ss) (more v vs) (more w ws) fit e =
          let both = first_made (clone_case m shapes s v) (clone_cases m shapes ss vs) w ws e in
          (clone_fits s v w fit.0 both.0, clones_fit ss vs ws fit.1 both.1)

    mutual
      unfolding clone_case clone_cases equality equality_of_parts

      -- a clone is never unequal to its source
      pub clone_equal : (s : ℕ) (v w : Value L) → Fits m shapes s v → clone_case m shapes s v ≡ made w → NotUnequal (equality m shapes s v w)
      clone_equal s (leaf x) w fits e =
          let is = offered_made (offers shapes s trait.Clone) (made (leaf (m.cloned x))) w e in
          let same : leaf (m.cloned x) ≡ w = (let made_is = is.1 in cc) in
          let can = leaves_can m shapes well s (m.kind x) fits trait.Clone is.0 in
          subst (λ u. NotUnequal (equality m shapes s (leaf x) u)) same
          (not_unequal_if (is_answered shapes trait.PartialEq s) (Some (m.same x (m.cloned x)))
          (λ answered.
          let comparable = leaves_can m shapes well s (m.kind x) fits trait.PartialEq (and_parts (offers shapes s trait.PartialEq) (is_comparable shapes (structure_at shapes s) trait.PartialEq) answered).0 in
          inr (ap Some (laws.cloned_same x can comparable))))
      clone_equal s (node form vs) w fits e =
          let ss = part_shapes (structure_at shapes s) form (count vs) in
          let cases = clone_cases m shapes ss vs in
          let made_node = node_made form cases w (offered_made (offers shapes s trait.Clone && is_cloned form) (node_of form (in_order none cases)) w e).1 in
          let ws = made_node.parts in
          let rank = rank_at shapes s form in
          let test = int_eq rank rank && (count vs == count ws) in
          let is_same = and_from (int_eq rank rank) (count vs == count ws) ((Decides-int_eq rank rank).1 refl) (eq-eqb (count vs) (count ws) (clone_count ss vs ws fits.1 made_node.is)) in
          subst (λ u. NotUnequal (equality m shapes s (node form vs) u)) made_node.value
          (not_unequal_if (is_answered shapes trait.PartialEq s) (if test then equality_of_parts m shapes ss vs ws else Some false)
          (λ answered. not_unequal_test test (equality_of_parts m shapes ss vs ws) is_same (clones_equal ss vs ws fits.1 made_node.is)))

      clones_equal : (ss : List ℕ) (vs ws : Values L) → AllFit m shapes ss vs → clone_cases m shapes ss vs ≡ each_made ws → NotUnequal (equality_of_parts m shapes ss vs ws)
      clones_equal [] none none fit e = inr refl
      clones_equal [] none (more w ws) fit e = inr refl
      clones_equal [] (more v vs) ws fit e = absurd fit
      clones_equal (s ∷ ss) none ws fit e = absurd fit
      clones_equal (s ∷ ss) (more v vs) none fit e = absurd (none_made (clone_case m shapes s v) (clone_cases m shapes ss vs) e)
      clones_equal (s ∷ ss) (more v vs) (more w ws) fit e =
          let both = first_made (clone_case m shapes s v) (clone_cases m shapes ss vs) w ws e in
          not_unequal_then (equality m shapes s v w) (equality_of_parts m shapes ss vs ws) (clone_equal s v w fit.0 both.0) (clones_equal ss vs ws fit.1 both.1)

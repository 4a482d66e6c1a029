-- What two equal values have in common.
use Rattle.std.proofs.Common.{◌≡◌, ℕ, ◌==◌, ◌&&◌, Bool, true, false, if◌then◌else◌, int_eq, List, Option, None, Some, refl, eqb-true}
use Rattle.std.proofs.lemmas.Bool.{and_parts}
use Rattle.std.proofs.lemmas.Bool.Decides.{Decides-int_eq}
use Rattle.facet_base.specs.declared.characteristic.Characteristic.TheVariants as trait
use Rattle.facet_causes.specs.Causes.{IsWellFormed}
use Rattle.facet_leaf.specs.LeafModel.{LeafModel}
use Rattle.facet_shape.specs.declared.shape.Shape.{Shape}
use Rattle.facet_trees.specs.Answered.{answer_if, is_answered, rank_at}
use Rattle.facet_trees.specs.Equal.{equal_then, equality, equality_of_parts}
use Rattle.facet_trees.specs.Fits.{Fits}
use Rattle.facet_trees.specs.Structure.{part_shapes, structure_at}
use Rattle.facet_trees.specs.Value.{Values, leaf, node, count}
use Rattle.facet_trees.specs.declared.form.Form.{Form}
use Rattle.facet_trees.proofs.FormsOfShape.{same_form}

answer_met : (is_there : Bool) (answer : Option Bool) → answer_if is_there answer ≡ Some true → (is_there ≡ true) × (answer ≡ Some true)
answer_met true answer is = (refl, is)
answer_met false answer is = absurd (cc)

test_met : (test : Bool) (answer : Option Bool) → (if test then answer else Some false) ≡ Some true → (test ≡ true) × (answer ≡ Some true)
test_met true answer is = (refl, is)
test_met false answer is = absurd (cc)

some_true : (b : Bool) → Some b ≡ Some true → b ≡ true
some_true b is = cc

-- of one answer and then another both are true
pub both_equal : (first next : Option Bool) → equal_then first next ≡ Some true → (first ≡ Some true) × (next ≡ Some true)
both_equal None next is = absurd (cc)
both_equal (Some true) next is = (refl, is)
both_equal (Some false) next is = absurd (cc)

module _ {L : Type 0} (m : LeafModel L) (shapes : List Shape) where
  pub equal_leaves : (s : ℕ) (x y : L) → equality m shapes s (leaf x) (leaf y) ≡ Some true → (is_answered shapes trait.PartialEq s ≡ true) × (m.same x y ≡ true)
  unfolding equality
  equal_leaves s x y equal =
      let both = answer_met (is_answered shapes trait.PartialEq s) (Some (m.same x y)) equal in
      (both.0, some_true (m.same x y) both.1)

  pub leaf_not_node : (s : ℕ) (x : L) (form : Form) (vs : Values L) → equality m shapes s (leaf x) (node form vs) ≡ Some true → ⊥
  unfolding equality
  leaf_not_node s x form vs equal = let both = answer_met (is_answered shapes trait.PartialEq s) (Some false) equal in let never = both.1 in absurd (cc)

  pub node_not_leaf : (s : ℕ) (x : L) (form : Form) (vs : Values L) → equality m shapes s (node form vs) (leaf x) ≡ Some true → ⊥
  unfolding equality
  node_not_leaf s x form vs equal = let both = answer_met (is_answered shapes trait.PartialEq s) (Some false) equal in let never = both.1 in absurd (cc)

  -- equal values are of one form, have as many parts, and equal ones
  pub equal_nodes : IsWellFormed m shapes → (s : ℕ) (form other : Form) (vs ws : Values L) → Fits m shapes s (node form vs) → Fits m shapes s (node other ws)
      → equality m shapes s (node form vs) (node other ws) ≡ Some true → (form ≡ other) × (count vs ≡ count ws) × (equality_of_parts m shapes (part_shapes (structure_at shapes s) form (count vs)) vs ws ≡ Some true)
  unfolding equality
  equal_nodes well s form other vs ws fits also equal =
      let r = rank_at shapes s form in
      let r' = rank_at shapes s other in
      let parts = equality_of_parts m shapes (part_shapes (structure_at shapes s) form (count vs)) vs ws in
      let test = int_eq r r' && (count vs == count ws) in
      let met = test_met test parts (answer_met (is_answered shapes trait.PartialEq s) (if test then parts else Some false) equal).1 in
      let both = and_parts (int_eq r r') (count vs == count ws) met.0 in
      (same_form m shapes well s form other fits.0 also.0 ((Decides-int_eq r r').0 both.0), eqb-true (count vs) (count ws) both.1, met.1)

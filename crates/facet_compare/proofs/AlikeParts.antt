-- Values of one shape whose forms have one rank have parts of the same shapes.
use Rattle.std.proofs.Common.{◌≡◌, ℕ, List, subst}
use Rattle.facet_causes.specs.Causes.{IsWellFormed}
use Rattle.facet_leaf.specs.LeafModel.{LeafModel}
use Rattle.facet_shape.specs.declared.shape.Shape.{Shape}
use Rattle.facet_trees.proofs.FormsOfShape.{same_form}
use Rattle.facet_trees.proofs.PartShapes.{Alike, alike_parts}
use Rattle.facet_trees.specs.Answered.{rank_at}
use Rattle.facet_trees.specs.Fits.{HasForm}
use Rattle.facet_trees.specs.Structure.{part_shapes, structure_at}
use Rattle.facet_trees.specs.declared.form.Form.{Form}

module _ {L : Type 0} (m : LeafModel L) (shapes : List Shape) (well : IsWellFormed m shapes) where
  -- n parts of the one and k of the other, as far as both go
  pub parts_alike : (s : ℕ) (form other : Form) (n k : ℕ) → HasForm (structure_at shapes s) form → HasForm (structure_at shapes s) other → rank_at shapes s form ≡ rank_at shapes s other
      → Alike (part_shapes (structure_at shapes s) form n) (part_shapes (structure_at shapes s) other k)
  parts_alike s form other n k has also same =
      subst (λ f. Alike (part_shapes (structure_at shapes s) form n) (part_shapes (structure_at shapes s) f k)) (same_form m shapes well s form other has also same)
      (alike_parts (structure_at shapes s) form n k)

-- What holds of the shape that a maker drafts.
use Rattle.std.specs.Prelude.{◌≡◌, false, Option}
use Rattle.facet_base.specs.declared.layout.ShapeId.{ShapeId}
use Rattle.facet_base.specs.declared.layout.ShapeLayout.{ShapeLayout}
use Rattle.facet_leaf.specs.LeafModel.{LeafModel}
use Rattle.facet_outline.specs.Mismatch.{is_mismatched}
use Rattle.facet_outline.specs.Offered.{has_unoffered_member}
use Rattle.facet_outline.specs.ValueKind.{kind_of}
use Rattle.facet_outline.specs.declared.value_kind.ValueKind.{ValueKind}
use Rattle.facet_shape.specs.declared.shape.Shape.{Shape}

-- its values are of the kind, what it says of itself fits together, and it offers no more than the kind does
pub record SuitsKind {L : Type 0} (m : LeafModel L) (layouts : ShapeId → ShapeLayout) (element : Option ShapeId) (k : ValueKind) (s : Shape) : Type 0 where
  pub kind : kind_of element s ≡ k
  pub fits : is_mismatched layouts s ≡ false
  pub offers : has_unoffered_member m element s ≡ false

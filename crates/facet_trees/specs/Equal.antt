-- The equality of two values of a shape.
use Rattle.std.specs.Prelude.{ℕ, Bool, true, false, ◌==◌, ◌&&◌, if◌then◌else◌, List, ◌∷◌, Option, Some}
use Rattle.std.specs.Ordering.{int_eq}
use Rattle.facet_base.specs.declared.characteristic.Characteristic.TheVariants as trait
use Rattle.facet_leaf.specs.LeafModel.{LeafModel}
use Rattle.facet_shape.specs.declared.shape.Shape.{Shape}
use Rattle.facet_trees.specs.Answered.{answer_if, is_answered, rank_at}
use Rattle.facet_trees.specs.Structure.{part_shapes, structure_at}
use Rattle.facet_trees.specs.Value.{Value, Values, leaf, node, more, count}

-- the first answer that isn't true, or the second
abbrev pub equal_then : Option Bool → Option Bool → Option Bool
equal_then (Some true) next = next
equal_then other next = other

module _ {L : Type 0} (m : LeafModel L) (shapes : List Shape) where
  unfoldable mutual
    -- no answer where the shape, or a part that is asked, has no equality; forms of another rank, or another number of parts, are never equal
    pub equality : ℕ → Value L → Value L → Option Bool
    equality s (leaf x) (leaf y) = answer_if (is_answered shapes trait.PartialEq s) (Some (m.same x y))
    equality s (node form vs) (node other ws) =
        answer_if (is_answered shapes trait.PartialEq s)
        (if int_eq (rank_at shapes s form) (rank_at shapes s other) && (count vs == count ws)
        then equality_of_parts (part_shapes (structure_at shapes s) form (count vs)) vs ws else Some false)
    equality s _ _ = answer_if (is_answered shapes trait.PartialEq s) (Some false)

    -- the parts in order, each by its shape
    pub equality_of_parts : List ℕ → Values L → Values L → Option Bool
    equality_of_parts (s ∷ ss) (more v vs) (more w ws) = equal_then (equality s v w) (equality_of_parts ss vs ws)
    equality_of_parts _ _ _ = Some true

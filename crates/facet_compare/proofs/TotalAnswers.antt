-- The total order never answers that two values are unordered.
use Rattle.std.proofs.Common.{◌≡◌, ℕ, Bool, true, false, int_cmp, List, [], ◌∷◌, None, Some, sym, subst}
use Rattle.std.specs.declared.cmp.Ordering.TheVariants.{Less, Equal, Greater}
use Rattle.facet_base.specs.declared.characteristic.Characteristic.TheVariants as trait
use Rattle.facet_leaf.specs.LeafModel.{LeafModel}
use Rattle.facet_shape.specs.declared.shape.Shape.{Shape}
use Rattle.facet_trees.specs.Answered.{answer_if, is_answered, rank_at}
use Rattle.facet_trees.specs.Order.{Answer, by_total, order_then, ordered, ordering, ordering_of_parts}
use Rattle.facet_trees.specs.Structure.{part_shapes, structure_at}
use Rattle.facet_trees.specs.Value.{Value, Values, leaf, node, none, more, count}

abbrev IsDecided : Answer → Type 0
IsDecided (Some None) = ⊥
IsDecided _ = Unit {0}

decided_if : (is_there : Bool) (answer : Answer) → IsDecided answer → IsDecided (answer_if is_there answer)
decided_if true answer is = is
decided_if false answer is = tt

decided_then : (first next : Answer) → IsDecided first → IsDecided next → IsDecided (order_then first next)
decided_then None next is also = tt
decided_then (Some None) next is also = absurd is
decided_then (Some (Some Less)) next is also = tt
decided_then (Some (Some Equal)) next is also = also
decided_then (Some (Some Greater)) next is also = tt

module _ {L : Type 0} (m : LeafModel L) (shapes : List Shape) where
  mutual
    unfolding ordering ordering_of_parts

    total_decides : (s : ℕ) (v w : Value L) → IsDecided (ordering m shapes by_total s v w)
    total_decides s (leaf x) (leaf y) = decided_if (is_answered shapes trait.Ord s) (ordered (m.order x y)) tt
    total_decides s (leaf x) (node other ws) = decided_if (is_answered shapes trait.Ord s) (ordered Less) tt
    total_decides s (node form vs) (leaf y) = decided_if (is_answered shapes trait.Ord s) (ordered Greater) tt
    total_decides s (node form vs) (node other ws) =
        let ranks = ordered (int_cmp (rank_at shapes s form) (rank_at shapes s other)) in
        let ss = part_shapes (structure_at shapes s) form (count vs) in
        decided_if (is_answered shapes trait.Ord s) (order_then ranks (ordering_of_parts m shapes by_total ss vs ws))
        (decided_then ranks (ordering_of_parts m shapes by_total ss vs ws) tt (total_decides_parts ss vs ws))

    total_decides_parts : (ss : List ℕ) (vs ws : Values L) → IsDecided (ordering_of_parts m shapes by_total ss vs ws)
    total_decides_parts ss none none = tt
    total_decides_parts ss none (more w ws) = tt
    total_decides_parts ss (more v vs) none = tt
    total_decides_parts [] (more v vs) (more w ws) = total_decides_parts [] vs ws
    total_decides_parts (s ∷ ss) (more v vs) (more w ws) =
        decided_then (ordering m shapes by_total s v w) (ordering_of_parts m shapes by_total ss vs ws) (total_decides s v w) (total_decides_parts ss vs ws)

  pub never_unordered : (s : ℕ) (v w : Value L) → Some None ≡ ordering m shapes by_total s v w → ⊥
  never_unordered s v w is = subst IsDecided (sym is) (total_decides s v w)

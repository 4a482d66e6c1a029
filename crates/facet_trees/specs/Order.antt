-- The partial and the total order of two values of a shape.
use Rattle.std.specs.Prelude.{◌≡◌, ◌⊎◌, ℕ, List, [], ◌∷◌, Option, Some, option_map}
use Rattle.std.specs.Ordering.{int_cmp, ordering_reverse}
use Rattle.std.specs.declared.cmp.Ordering.{Ordering}
use Rattle.std.specs.declared.cmp.Ordering.TheVariants.{Less, Equal, Greater}
use Rattle.facet_base.specs.declared.characteristic.Characteristic.{Characteristic}
use Rattle.facet_base.specs.declared.characteristic.Characteristic.TheVariants as trait
use Rattle.facet_leaf.specs.LeafModel.{LeafModel}
use Rattle.facet_shape.specs.declared.shape.Shape.{Shape}
use Rattle.facet_trees.specs.Answered.{answer_if, is_answered, rank_at}
use Rattle.facet_trees.specs.Structure.{part_shapes, structure_at}
use Rattle.facet_trees.specs.Value.{Value, Values, leaf, node, none, more, count}

pub data Which : Type 0 where
  by_partial : Which
  by_total : Which

-- the capability that is asked for
abbrev pub capability_of : Which → Characteristic
capability_of by_partial = trait.PartialOrd
capability_of by_total = trait.Ord

-- what a comparison comes to: no answer, no order between the two, or their order
abbrev pub Answer : Type 0
Answer = Option (Option Ordering)

-- two values are ordered so
abbrev pub ordered : Ordering → Answer
ordered order = Some (Some order)

-- they are ordered somehow
pub record IsOrdered (answer : Answer) : Type 0 where
  pub order : Ordering
  pub is : answer ≡ ordered order

-- the first is less or equal
abbrev pub IsAtMost : Answer → Type 0
IsAtMost answer = (answer ≡ ordered Less) ⊎ (answer ≡ ordered Equal)

-- the answer where the two are exchanged
abbrev pub reversed : Answer → Answer
reversed answer = option_map (option_map ordering_reverse) answer

-- the first answer that isn't Equal, or the second
abbrev pub order_then : Answer → Answer → Answer
order_then (Some (Some Equal)) next = next
order_then other next = other

module _ {L : Type 0} (m : LeafModel L) where
  abbrev pub order_of_leaves : Which → L → L → Option Ordering
  order_of_leaves by_partial x y = m.partial_order x y
  order_of_leaves by_total x y = Some (m.order x y)

  module _ (shapes : List Shape) (which : Which) where
    unfoldable mutual
      -- no answer where the shape, or a part that is asked, has no such order; the forms by their ranks, and then the parts
      pub ordering : ℕ → Value L → Value L → Answer
      ordering s (leaf x) (leaf y) = answer_if (is_answered shapes (capability_of which) s) (Some (order_of_leaves which x y))
      ordering s (leaf x) (node other ws) = answer_if (is_answered shapes (capability_of which) s) (ordered Less)
      ordering s (node form vs) (leaf y) = answer_if (is_answered shapes (capability_of which) s) (ordered Greater)
      ordering s (node form vs) (node other ws) =
          answer_if (is_answered shapes (capability_of which) s)
          (order_then (ordered (int_cmp (rank_at shapes s form) (rank_at shapes s other)))
          (ordering_of_parts (part_shapes (structure_at shapes s) form (count vs)) vs ws))

      -- the parts in order, each by its shape; where one side ends before the other, it is less. Parts beyond the last shape, of which a value has none, are passed over
      pub ordering_of_parts : List ℕ → Values L → Values L → Answer
      ordering_of_parts ss none none = ordered Equal
      ordering_of_parts ss none (more w ws) = ordered Less
      ordering_of_parts ss (more v vs) none = ordered Greater
      ordering_of_parts [] (more v vs) (more w ws) = ordering_of_parts [] vs ws
      ordering_of_parts (s ∷ ss) (more v vs) (more w ws) = order_then (ordering s v w) (ordering_of_parts ss vs ws)

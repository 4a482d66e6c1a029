-- Keys and items in strictly ascending order.
use Rattle.std.specs.Prelude.{◌≡◌, ℕ, AllPairs, List, [], ◌∷◌}
use Rattle.std.specs.declared.cmp.Ordering.TheVariants.{Less}
use Rattle.facet_leaf.specs.LeafModel.{LeafModel}
use Rattle.facet_shape.specs.declared.shape.Shape.{Shape}
use Rattle.facet_trees.specs.Order.{by_total, ordered, ordering}
use Rattle.facet_trees.specs.Structure.{Structure, sequence}
use Rattle.facet_trees.specs.Value.{Value, Values, every_second, listed}
use Rattle.facet_trees.specs.declared.form.Form.{Form}
use Rattle.facet_trees.specs.declared.form.Form.TheVariants as form

-- the keys of a map or the items of a set, of which these are the parts
abbrev pub keys_of : {L : Type 0} → Form → Values L → List (Value L)
keys_of form.Map parts = every_second parts
keys_of form.Set parts = listed parts
keys_of _ parts = []

module _ {L : Type 0} (m : LeafModel L) (shapes : List Shape) where
  -- by the total order of the values of a shape
  abbrev pub IsLess : ℕ → Value L → Value L → Type 0
  IsLess s v w = ordering m shapes by_total s v w ≡ ordered Less

  -- each is less than all that follow it
  abbrev pub AreAscending : ℕ → List (Value L) → Type 0
  AreAscending s keys = AllPairs (IsLess s) keys

  -- the keys of a map and the items of a set are ascending
  abbrev pub IsInOrder : Structure → Values L → Type 0
  IsInOrder (sequence form (key ∷ ids)) parts = AreAscending key.0 (keys_of form parts)
  IsInOrder _ parts = Unit {0}

-- The keys of maps and the items of sets have a total order. It holds of each shape of a list that is well formed.
use Rattle.std.specs.Prelude.{◌≡◌, ℕ, true, All, List, slice_get}
use Rattle.facet_base.specs.declared.characteristic.Characteristic.TheVariants as trait
use Rattle.facet_causes.specs.KeyNotOrd.{keys_of}
use Rattle.facet_causes.specs.Reading.{OfShape, indices, kind_in, parts_at}
use Rattle.facet_graph.specs.Reach.{Reaches}
use Rattle.facet_outline.specs.BadLayout.{has_values}
use Rattle.facet_shape.specs.Capability.{can}
use Rattle.facet_shape.specs.declared.shape.Shape.{Shape}

module _ (shapes : List Shape) where
  -- there are values, and they can be asked for equality and both orders
  pub record IsOrdered (shape : Shape) : Type 0 where
    pub values : has_values (kind_in shapes shape) ≡ true
    pub partial_eq : can shape trait.PartialEq ≡ true
    pub partial_cmp : can shape trait.PartialOrd ≡ true
    pub cmp : can shape trait.Ord ≡ true

  -- each shape that is reached by parts from the key of a map or from the item of a set is ordered, the key itself too
  abbrev pub KeysAreOrdered : Shape → Type 0
  KeysAreOrdered shape = All (λ key. (part : ℕ) → Reaches (parts_at shapes) key part → OfShape IsOrdered (slice_get shapes part)) (indices (keys_of shapes shape))

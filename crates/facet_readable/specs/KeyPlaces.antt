-- The places of the keys of a map and of the items of a set.
use Rattle.std.specs.Prelude.{◌≡◌, List, [], ◌∷◌}
use Rattle.facet_leaf.specs.LeafModel.{LeafModel}
use Rattle.facet_shape.specs.declared.shape.Shape.{Shape}
use Rattle.facet_trees.specs.Ascending.{IsLess}
use Rattle.facet_trees.specs.declared.form.Form.{Form}
use Rattle.facet_trees.specs.declared.form.Form.TheVariants as form
use Rattle.facet_values.specs.Place.{Place}
use Rattle.facet_values.specs.Reading.{value_at}
use Rattle.facet_values.specs.Seen.{a_node, seen}

module _ {L : Type 0} where
  -- every second place, from the first on
  abbrev pub every_second_place : List (Place L) → List (Place L)
  every_second_place [] = []
  every_second_place (key ∷ []) = key ∷ []
  every_second_place (key ∷ value ∷ rest) = key ∷ every_second_place rest

  -- the places of the keys of a map or of the items of a set, of which these are the places of the parts
  abbrev pub key_places : Form → List (Place L) → List (Place L)
  key_places form.Map parts = every_second_place parts
  key_places form.Set parts = parts
  key_places _ parts = []

  -- the value of 100 levels at most at a place is less than that at another, by the shape of the first
  abbrev pub HoldsLess : LeafModel L → List Shape → Place L → Place L → Type 0
  HoldsLess m shapes p q = IsLess m shapes p.shape (value_at shapes 100 p) (value_at shapes 100 q)

  -- the places are those of the parts that are seen somewhere under the form
  pub record AreSeen (shapes : List Shape) (form : Form) (ps : List (Place L)) : Type 0 where
    pub place : Place L
    pub seen : a_node form ps ≡ seen shapes place

-- Where the inline parts of the value at a place lie, and parts in place of others.
use Rattle.std.specs.Prelude.{ℕ, zero, suc, List, [], Option}
use Rattle.std.specs.Option.{option_map_or}
use Rattle.facet_block.specs.declared.block.Item.{Item}
use Rattle.facet_block.specs.Block.{tag_of}
use Rattle.facet_outline.specs.declared.placed_fields.PlacedField.{PlacedField}
use Rattle.facet_shape.specs.declared.shape.Shape.{Shape}
use Rattle.facet_trees.specs.Structure.{Structure, plain, tagged, body_under, structure_at}
use Rattle.facet_trees.specs.Value.{Values, none, more}
use Rattle.facet_values.specs.Place.{Place, own_item}

module _ {L : Type 0} where
  -- the inline parts of a value of the structure, by its own item
  abbrev pub body_by : Structure → Option (Item L) → List PlacedField
  body_by (plain form body) found = body
  body_by (tagged forms bodies) found = option_map_or (body_under bodies) (tag_of found) []
  body_by _ found = []

  -- the inline parts of the value at a place
  abbrev pub body_at : List Shape → Place L → List PlacedField
  body_at shapes p = body_by (structure_at shapes p.shape) (own_item p)

  -- the second parts with the first in place of as many from the front
  abbrev pub with_first : Values L → Values L → Values L
  with_first none vs = vs
  with_first (more w ws) none = none
  with_first (more w ws) (more v vs) = more w (with_first ws vs)

  -- the second parts with the first in place of as many from an index on
  abbrev pub with_parts : ℕ → Values L → Values L → Values L
  with_parts zero ws vs = with_first ws vs
  with_parts (suc i) ws none = none
  with_parts (suc i) ws (more v vs) = more v (with_parts i ws vs)

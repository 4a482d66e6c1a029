-- What a value at a place begins with.
use Rattle.std.specs.Prelude.{List, Option, None, Some, slice_get}
use Rattle.std.specs.Option.{option_map_or}
use Rattle.facet_block.specs.declared.block.Item.{Item}
use Rattle.facet_block.specs.Block.{leaf_of, sequence_of, tag_of}
use Rattle.facet_block.specs.Seq.{filled_of}
use Rattle.facet_shape.specs.declared.shape.Shape.{Shape}
use Rattle.facet_trees.specs.Structure.{Structure, no_values, plain, scalar, sequence, tagged, block_body, structure_at}
use Rattle.facet_trees.specs.declared.form.Form.{Form}
use Rattle.facet_values.specs.Place.{Place, block_places, own_item, part_places}

-- nothing that a value begins with, a leaf, or a form and the places of its parts
pub data Seen (L : Type 0) : Type 0 where
  no_value : Seen L
  a_leaf : L → Seen L
  a_node : Form → List (Place L) → Seen L

-- the leaf that is seen, where it is one
abbrev pub leaf_of_seen : {L : Type 0} → Seen L → Option L
leaf_of_seen (a_leaf x) = Some x
leaf_of_seen _ = None

module _ {L : Type 0} (shapes : List Shape) where
  -- by the structure of the shape's values, the place, and the item there
  abbrev pub seen_by : Structure → Place L → Option (Item L) → Seen L
  seen_by no_values p found = no_value
  seen_by (scalar k) p found = option_map_or a_leaf (leaf_of found) no_value
  seen_by (plain form body) p found = a_node form (part_places p body)
  seen_by (tagged forms bodies) p found =
      option_map_or (λ tag. option_map_or (λ body. a_node (forms tag) (part_places p body)) (slice_get bodies tag) no_value) (tag_of found) no_value
  seen_by (sequence form ids) p found = option_map_or (λ s. a_node form (block_places (block_body shapes ids) (filled_of s))) (sequence_of found) no_value

  unfoldable pub seen : Place L → Seen L
  seen p = seen_by (structure_at shapes p.shape) p (own_item p)

  -- the leaf that the value at a place is, where it is one
  abbrev pub leaf_at : Place L → Option L
  leaf_at p = leaf_of_seen (seen p)

-- What the code tells apart of how the values of a shape are made up.
use Rattle.std.specs.Prelude.{ℕ, List, [], ◌∷◌}
use Rattle.facet_drop.specs.declared.makeup.BlockParts.{BlockParts}
use Rattle.facet_drop.specs.declared.makeup.BlockParts.TheVariants as parts
use Rattle.facet_drop.specs.declared.makeup.Makeup.{Makeup}
use Rattle.facet_drop.specs.declared.makeup.Makeup.TheVariants as makeup
use Rattle.facet_outline.specs.declared.placed_fields.PlacedField.{PlacedField}
use Rattle.facet_outline.specs.declared.value_kind.ValueKind.{ValueKind}
use Rattle.facet_outline.specs.declared.value_kind.ValueKind.TheVariants as kind
use Rattle.facet_shape.specs.declared.shape.Shape.{Shape}
use Rattle.facet_values.specs.Place.{Place}
use Rattle.facet_values.specs.Seen.{Seen, a_node}
use Rattle.facet_trees.specs.Structure.{Structure, no_values, plain, scalar, sequence, tagged, block_body, structure_at}

-- the places of the parts that are seen
abbrev pub parts_of_seen : {L : Type 0} → Seen L → List (Place L)
parts_of_seen (a_node form parts) = parts
parts_of_seen _ = []

-- which structure it is
abbrev pub makeup_of : Structure → Makeup
makeup_of no_values = makeup.NoValues
makeup_of (scalar k) = makeup.Leaf
makeup_of (plain form body) = makeup.Inline
makeup_of (tagged forms bodies) = makeup.Tagged
makeup_of (sequence form ids) = makeup.Sequence

-- that of the values of a kind
abbrev pub makeup_of_kind : ValueKind → Makeup
makeup_of_kind kind.NoValue = makeup.NoValues
makeup_of_kind (kind.Leaf k) = makeup.Leaf
makeup_of_kind kind.Unit = makeup.Inline
makeup_of_kind kind.Struct = makeup.Inline
makeup_of_kind kind.Array = makeup.Inline
makeup_of_kind kind.Enum = makeup.Tagged
makeup_of_kind kind.Option = makeup.Tagged
makeup_of_kind kind.Result = makeup.Tagged
makeup_of_kind _ = makeup.Sequence

-- where the parts lie in each block of a sequence
abbrev pub held_in : BlockParts → List PlacedField
held_in parts.None = []
held_in (parts.One shape) = record { shape = shape; offset = 0 } ∷ []
held_in (parts.Pair key value offset) = record { shape = key; offset = 0 } ∷ record { shape = value; offset = offset } ∷ []

module _ (shapes : List Shape) where
  abbrev pub block_body_by : Structure → List PlacedField
  block_body_by (sequence form ids) = block_body shapes ids
  block_body_by _ = []

  -- the same of the values of the shape under an id, where these are sequences
  abbrev pub block_body_at : ℕ → List PlacedField
  block_body_at s = block_body_by (structure_at shapes s)

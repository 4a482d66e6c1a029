-- What a default is made of, by the kind and the structure.
use Rattle.std.specs.Prelude.{ℕ, Bool, true, false, List, []}
use Rattle.facet_make.specs.declared.initial.Initial.{Initial}
use Rattle.facet_make.specs.declared.initial.Initial.TheVariants as initial
use Rattle.facet_outline.specs.declared.placed_fields.PlacedField.{PlacedField}
use Rattle.facet_outline.specs.declared.value_kind.ValueKind.{ValueKind}
use Rattle.facet_outline.specs.declared.value_kind.ValueKind.TheVariants as kind
use Rattle.facet_shape.specs.declared.shape.Shape.{Shape}
use Rattle.facet_trees.specs.Structure.{Structure, plain, sequence, block_size, structure_at}

abbrev pub initial_of_kind : ValueKind → Initial
initial_of_kind kind.Unit = initial.Parts
initial_of_kind (kind.Leaf k) = initial.Leaf k
initial_of_kind kind.Struct = initial.Parts
initial_of_kind kind.Array = initial.Parts
initial_of_kind kind.Option = initial.FirstTag
initial_of_kind kind.List = initial.NoBlocks
initial_of_kind kind.Map = initial.NoBlocks
initial_of_kind kind.Set = initial.NoBlocks
initial_of_kind _ = initial.None

-- the values have inline parts, and nothing else
abbrev pub is_plain : Structure → Bool
is_plain (plain form body) = true
is_plain _ = false

-- these parts
abbrev pub plain_body : Structure → List PlacedField
plain_body (plain form body) = body
plain_body _ = []

module _ (shapes : List Shape) where
  abbrev pub block_size_by : Structure → ℕ
  block_size_by (sequence form ids) = block_size shapes ids
  block_size_by _ = 0

  -- how many bytes a block of a sequence of the shape under an id has
  abbrev pub block_size_at : ℕ → ℕ
  block_size_at s = block_size_by (structure_at shapes s)

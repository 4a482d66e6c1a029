-- What a cell holds.
use Rattle.std.specs.Prelude.{◌<◌, List, length}
use Rattle.std.specs.List.{flat_map}
use Rattle.facet_leaf.specs.LeafModel.{LeafModel}
use Rattle.facet_shape.specs.declared.shape.Shape.{Shape}
use Rattle.facet_trees.specs.Value.{leaves}
use Rattle.facet_values.specs.Place.{start_of}
use Rattle.facet_values.specs.Reading.{IsReadable, value_at}
use Rattle.facet_session.specs.declared.session.Cell.{Cell}

-- the cell's shape is sealed, and its block reads from 0 as a value of it that operations may go into
pub record HoldsValue {L : Type 0} (m : LeafModel L) (shapes : List Shape) (cell : Cell L) : Type 0 where
  pub sealed : cell.shape.0 < length shapes
  pub readable : IsReadable m shapes (start_of cell.shape.0 cell.block)

-- the leaves of one cell's value
abbrev pub stored_in : {L : Type 0} → List Shape → Cell L → List L
stored_in shapes cell = leaves (value_at shapes 100 (start_of cell.shape.0 cell.block))

-- the leaves of all cells, in their order
abbrev pub stored_in_all : {L : Type 0} → List Shape → List (Cell L) → List L
stored_in_all shapes cells = flat_map (stored_in shapes) cells

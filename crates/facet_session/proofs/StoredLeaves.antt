-- The leaves of the value that a cell stores.
use Rattle.std.proofs.Common.{◌≡◌, List, ap, sym, ◌∙◌}
use Rattle.facet_leaf.specs.LeafModel.{LeafModel}
use Rattle.facet_shape.specs.declared.shape.Shape.{Shape}
use Rattle.facet_trees.specs.Value.{Value, leaves}
use Rattle.facet_values.proofs.OneReading.{one_value}
use Rattle.facet_values.proofs.ValueAt.{readable_value}
use Rattle.facet_values.specs.Place.{start_of}
use Rattle.facet_values.specs.Reading.{Reads}
use Rattle.facet_session.specs.declared.session.Cell.{Cell}
use Rattle.facet_session.specs.Cell.{HoldsValue, stored_in}

-- whatever the cell's block reads as has the leaves that are stored
pub stored_read : {L : Type 0} (m : LeafModel L) (shapes : List Shape) (cell : Cell L) (v : Value L) → HoldsValue m shapes cell → Reads m shapes (start_of cell.shape.0 cell.block) v → leaves v ≡ stored_in shapes cell
stored_read m shapes cell v held reads =
    let p = start_of cell.shape.0 cell.block in
    ap leaves (one_value m shapes p v held.readable.value reads held.readable.reads ∙ sym (readable_value m shapes 100 p held.readable))

-- Values that are moved to another block.
use Rattle.std.proofs.Common.{ℕ, ◌+◌, ◌<◌, ◌≤◌, List, length, refl, arith}
use Rattle.facet_leaf.specs.LeafModel.{LeafModel}
use Rattle.facet_block.specs.Block.{moved_in, moved_out, size_of}
use Rattle.facet_block.specs.Span.{IsCleared}
use Rattle.facet_block.specs.declared.block.Block.{Block}
use Rattle.facet_block.proofs.Ranges.{arrived_moved_in, changed_moved_in, cleared_moved_out}
use Rattle.facet_registry.specs.Registry.{size_at}
use Rattle.facet_shape.specs.declared.shape.Shape.{Shape}
use Rattle.facet_trees.specs.Value.{Value}
use Rattle.facet_values.specs.Laid.{IsLaidOut}
use Rattle.facet_values.specs.Place.{Place, place_in, range_of}
use Rattle.facet_values.specs.Reading.{HoldsSame, Reads}
use Rattle.facet_values.proofs.SameReading.{reads_alike}
use Rattle.facet_values.proofs.WholePlaces.{lies_in_block}

module _ {L : Type 0} (m : LeafModel L) (shapes : List Shape) (p : Place L) (v : Value L) (reads : Reads m shapes p v) where
  -- the place to which a value is moved holds what its old place held
  pub moved_holds : (to : Block L) (at : ℕ) → at + size_at shapes p.shape ≤ size_of to
      → HoldsSame shapes p (place_in p.shape (moved_in to at p.block p.offset (size_at shapes p.shape)) at)
  moved_holds to at room =
      let size = size_at shapes p.shape in
      let inside = lies_in_block m shapes p v reads in
      record {
        shape = refl;
        items = λ i below. arrived_moved_in to at p.block p.offset size room inside i below;
        inside = omega (arith, (changed_moved_in to at p.block p.offset size room inside).size, room);
      }

  -- it reads as the value
  pub moved_reads : ((s : ℕ) → s < length shapes → IsLaidOut shapes s) → p.shape < length shapes → (to : Block L) (at : ℕ) → at + size_at shapes p.shape ≤ size_of to
      → Reads m shapes (place_in p.shape (moved_in to at p.block p.offset (size_at shapes p.shape)) at) v
  moved_reads laid known to at room =
      reads_alike m shapes laid p (place_in p.shape (moved_in to at p.block p.offset (size_at shapes p.shape)) at) v known (moved_holds to at room) reads

  -- and the old place is empty
  pub moved_cleared : IsCleared p.block (moved_out p.block p.offset (size_at shapes p.shape)) (range_of shapes p)
  moved_cleared = cleared_moved_out p.block p.offset (size_at shapes p.shape) (lies_in_block m shapes p v reads)

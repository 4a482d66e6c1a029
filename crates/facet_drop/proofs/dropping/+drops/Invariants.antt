use Rattle.std.proofs.Common.{◌≡◌, ◌+◌, ◌*◌, drop, length}
use Rattle.facet_block.specs.Seq.{filled_of}
use Rattle.facet_drop.proofs.PartsInOrder.{FirstLeft}
use Rattle.facet_drop.proofs.PartsLeft.{BlocksLeft}
use Rattle.facet_drop.specs.Makeup.{held_in}
use Rattle.facet_values.specs.Place.{place_in}
use Rattle.facet_drop.proofs.dropping.+drops.Given as goal

abbrev pub decreases-drop_at : goal.decreases-drop_at
decreases-drop_at g l = 3 * l.levels

abbrev pub decreases-drop_inline : goal.decreases-drop_inline
decreases-drop_inline g l = 3 * l.levels + 2

abbrev pub decreases-drop_first : goal.decreases-drop_first
decreases-drop_first g l = 3 * l.levels + 1

abbrev pub decreases-drop_blocks : goal.decreases-drop_blocks
decreases-drop_blocks g l = 3 * l.levels + 2

abbrev pub decreases-drop_block : goal.decreases-drop_block
decreases-drop_block g l = 3 * l.levels + 1

-- the inline parts from this one on are left
abbrev pub invariant-drop_first-loop-i : goal.invariant-drop_first-loop-i
invariant-drop_first-loop-i g l = FirstLeft g.L.Leaf.model l.shapes.sealed l.levels (place_in l.id.0 l.fn.block l.at) l.count l.fn.log l.i l.block l.log

-- the filled blocks from this one on are left
abbrev pub invariant-drop_blocks-loop-i : goal.invariant-drop_blocks-loop-i
invariant-drop_blocks-loop-i g l =
    record {
      count : length (filled_of l.blocks) ≡ length (filled_of l.initial.blocks);
      left : BlocksLeft g.L.Leaf.model l.shapes.sealed l.levels (held_in l.parts) (filled_of l.initial.blocks) l.fn.log (drop l.i (filled_of l.blocks)) l.log;
    }

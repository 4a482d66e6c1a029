use Rattle.std.proofs.Common.{◌+◌, ◌*◌}
use Rattle.facet_value_tables.proofs.notation.+reading.Given as goal

abbrev pub decreases-read_block : goal.decreases-read_block
decreases-read_block g l = 3 * l.levels

abbrev pub decreases-read_blocks : goal.decreases-read_blocks
decreases-read_blocks g l = 3 * l.levels + 1

abbrev pub decreases-read_item : goal.decreases-read_item
decreases-read_item g l = 3 * l.levels + 2

use Rattle.std.proofs.Common.{◌≡◌, ◌+◌, ◌≤◌}
use Rattle.facet_block.specs.Block.{size_of, moved_in, moved_out}
use Rattle.facet_block.proofs.block.Block.move_items.Given as goal

abbrev pub invariant-loop-i : goal.invariant-loop-i
invariant-loop-i g l =
    record {
      items : l.self ≡ moved_in l.initial.self l.at l.initial.source l.from l.i;
      source : l.source ≡ moved_out l.initial.source l.from l.i;
      fits : l.at + l.size ≤ size_of l.initial.self;
      source_fits : l.from + l.size ≤ size_of l.initial.source;
    }

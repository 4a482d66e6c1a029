use Rattle.std.proofs.Common.{ℕ, ◌+◌, ◌-◌, ◌<◌, ◌≤◌}
use Rattle.facet_block.specs.Block.{size_of}
use Rattle.facet_block.specs.Span.{span, IsEmptyIn}
use Rattle.facet_block.proofs.block.Block.is_empty_in.Given as goal

abbrev pub invariant-loop-i : goal.invariant-loop-i
invariant-loop-i g l =
    record {
      empty : IsEmptyIn l.self (span l.off (l.i - l.off));
      start : l.off ≤ l.i;
      within : l.end ≤ l.off + l.len;
      before_end : (i : ℕ) → i < l.off + l.len → i < size_of l.self → i < l.end;
    }

use Rattle.std.proofs.Common.{◌≡◌, ◌-◌, ◌≤◌, length, take}
use Rattle.std.specs.Io.KnownBytes.{Appends}
use Rattle.facet_script.proofs.output.write_all.Given as goal

abbrev pub invariant-loop-sent : goal.invariant-loop-sent
invariant-loop-sent g l =
    let written = g.K.Sink.written in
    let faults = g.K.Sink.faults in
    record {
      within : l.sent ≤ length l.piece;
      handed : Appends (written l.fn.sink) (written l.sink) (take l.sent l.piece);
      kept : faults l.sink ≡ faults l.fn.sink;
    }

abbrev pub decreases-loop-sent : goal.decreases-loop-sent
decreases-loop-sent g l = length l.piece - l.sent

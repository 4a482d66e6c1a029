use Rattle.std.proofs.Common.{◌≡◌, ◌-◌, ◌≤◌, vec_len}
use Rattle.std.specs.Io.KnownBytes.{Consumes}
use Rattle.facet_stream.specs.Causes.{raised}
use Rattle.facet_script.proofs.input.read_all.Given as goal

abbrev pub invariant-reading : goal.invariant-reading
invariant-reading g l =
    let left = g.S.Source.left in
    let taken = g.S.Source.taken in
    let faults = g.S.Source.faults in
    record {
      short : vec_len l.bytes ≤ 1048576;
      bytes : Consumes (left l.fn.source) (left l.source) l.bytes.items;
      counted : taken l.source ≡ raised (taken l.fn.source) (vec_len l.bytes);
      kept : faults l.source ≡ faults l.fn.source;
    }

abbrev pub decreases-reading : goal.decreases-reading
decreases-reading g l = 1048576 - vec_len l.bytes

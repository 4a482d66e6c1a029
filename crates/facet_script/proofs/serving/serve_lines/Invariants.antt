use Rattle.std.proofs.Common.{◌≡◌, ◌+◌, ◌≤◌, length}
use Rattle.facet_registry.specs.Registry.{all_shapes}
use Rattle.facet_session.specs.Script.{lines, turns_from, after}
use Rattle.facet_script.specs.Progress.{HasAnswered}
use Rattle.facet_script.proofs.serving.serve_lines.Given as goal

abbrev pub invariant-loop-rest : goal.invariant-loop-rest
invariant-loop-rest g l =
    let m = g.L.Leaf.model in
    let written = g.K.Sink.written in
    let faults = g.K.Sink.faults in
    record {
      progress : HasAnswered m l.script l.lines (turns_from m (after m l.script l.lines) (lines l.rest)) (written l.fn.sink) (written l.sink) l.session;
      few : l.lines + length l.rest ≤ length l.script;
      room : length (all_shapes l.session.shapes) + length l.rest ≤ 16 + length l.script;
      kept : faults l.sink ≡ faults l.fn.sink;
    }

abbrev pub decreases-loop-rest : goal.decreases-loop-rest
decreases-loop-rest g l = length l.rest

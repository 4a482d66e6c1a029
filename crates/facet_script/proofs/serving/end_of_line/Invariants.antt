use Rattle.std.proofs.Common.{◌≡◌, ◌+◌, drop}
use Rattle.std.specs.List.{position_or_len}
use Rattle.facet_session.specs.Script.{is_newline}
use Rattle.facet_script.proofs.serving.end_of_line.Given as goal

abbrev pub invariant-loop-i : goal.invariant-loop-i
invariant-loop-i l = l.i + position_or_len is_newline (drop l.i l.script) ≡ position_or_len is_newline l.script

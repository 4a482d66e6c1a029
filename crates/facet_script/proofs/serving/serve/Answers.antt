use Rattle.facet_session.specs.Script.{after}
use Rattle.facet_session.specs.Interpreter.{last}
use Rattle.facet_script.proofs.ServedRuns.{out_of_memory, ended, cut_short}
use Rattle.facet_session.proofs.ShownSessions.{cells_gone}
use Rattle.facet_script.proofs.serving.serve.Goals as goal

pub finish-requires : goal.finish-requires
finish-requires g c = record { state = after g.L.Leaf.model c.args.script.now c.in-Ok.lines; shown = c.in-Ok.ensures.progress.cells }

pub returns-in-Err-finish-clause-served : goal.returns-in-Err-finish-clause-served
returns-in-Err-finish-clause-served g c =
    rw c.out_of_memory.ensures
    (out_of_memory g.L.Leaf.model c.args.script.now c.in-Ok.lines (last (after g.L.Leaf.model c.args.script.now c.in-Ok.lines)) _ _ _ _ c.finish.new.session
    c.in-Ok.ensures.progress c.in-Err-finish.ensures.err c.in-Err-finish.ensures.cleared)

pub returns-in-Ok-write_line-clause-served : goal.returns-in-Ok-write_line-clause-served
returns-in-Ok-write_line-clause-served g c =
    let progress = c.in-Ok.ensures.progress in
    ended g.L.Leaf.model c.args.script.now c.in-Ok.lines _ _ _ _ _ c.finish.new.session _ progress (c.in-Ok-finish.ensures.turn _ progress.cells) c.in-Ok-write_line.ensures.bytes

pub returns-in-Ok-write_line-clause-dropped : goal.returns-in-Ok-write_line-clause-dropped
returns-in-Ok-write_line-clause-dropped g c ok =
    let state = after g.L.Leaf.model c.args.script.now c.in-Ok.lines in
    cells_gone g.L.Leaf.model c.finish.new.session state (c.in-Ok-finish.ensures.turn state c.in-Ok.ensures.progress.cells).state

pub returns-in-Err-write_line-clause-served : goal.returns-in-Err-write_line-clause-served
returns-in-Err-write_line-clause-served g c =
    let progress = c.in-Ok.ensures.progress in
    rw c.unwritten.ensures
    (cut_short g.L.Leaf.model c.args.script.now c.in-Ok.lines _ _ _ _ _ _ c.finish.new.session _ c.in-Err-write_line.error progress (c.in-Ok-finish.ensures.turn _ progress.cells) c.in-Err-write_line.ensures.bytes)

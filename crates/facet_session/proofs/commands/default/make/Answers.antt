use Rattle.std.proofs.Common.{Ok, refl, subst, sym}
use Rattle.std.proofs.lemmas.Result.{IfOk-weaker}
use Rattle.facet_make.specs.Default.{default_case}
use Rattle.facet_make.specs.Exits.{After}
use Rattle.facet_session.specs.Made.{add_made}
use Rattle.facet_session.specs.Session.{CarriesOut}
use Rattle.facet_session.proofs.DefaultLemmas.{made_holds, refused_is}
use Rattle.facet_session.proofs.commands.default.make.Goals as goal

pub add_made-requires-clause-held : goal.add_made-requires-clause-held
add_made-requires-clause-held g c =
    let m = g.L.Leaf.model in
    let sealed = c.args.session.now.shapes.sealed in
    let s = c.args.shape.0 in
    made_holds m sealed s _ refl refl c.requires.sealed
    (subst (λ found. After m sealed (default_case m sealed 100 s) s 0 c.in_ok-block.block c.default_at_start.new.block c.args.session.now.log c.default_at_start.new.log (Ok found)) c.in-Some.is c.in_ok-default_at_start.ensures)

pub returns-in-None-clause-turn : goal.returns-in-None-clause-turn
returns-in-None-clause-turn g c =
    let m = g.L.Leaf.model in
    let sealed = c.args.session.now.shapes.sealed in
    let s = c.args.shape.0 in
    let case = default_case m sealed 100 s in
    let back = subst (λ found. After m sealed case s 0 c.in_ok-block.block c.default_at_start.new.block c.args.session.now.log c.default_at_start.new.log (Ok found)) c.in-None.is c.in_ok-default_at_start.ensures in
    let now = record c.args.session.now { log = c.default_at_start.new.log } in
    IfOk-weaker c.name_taken_back.result _ _
    (λ answer carried state shown. subst (λ found. CarriesOut m now answer (add_made state c.args.name s found)) (sym (refused_is m sealed s case c.requires.empty back))
    (carried state c.args.name s (record { registry = shown.registry; cells = shown.cells })))
    c.name_taken_back.ensures

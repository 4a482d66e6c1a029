use Rattle.std.proofs.Common.{sym, subst}
use Rattle.std.proofs.lemmas.Result.{IfOk-weaker}
use Rattle.facet_session.specs.Session.{CarriesOut}
use Rattle.facet_session.proofs.DefaultLemmas.{default_refused, default_served, served}
use Rattle.facet_session.proofs.TurnLemmas.{refused_carried}
use Rattle.facet_session.proofs.commands.default.default.Goals as goal

pub returns-in-Some-clause-turn : goal.returns-in-Some-clause-turn
returns-in-Some-clause-turn g c =
    let m = g.L.Leaf.model in
    let session = c.args.session.now in
    let refusal = c.in-Some.refusal in
    IfOk-weaker c.refuse.result _ _
    (λ answer same state shown. subst (CarriesOut m session answer)
    (sym (default_refused m session c.args.name c.args.shape.0 state shown refusal c.in-Some.ensures))
    (refused_carried m session answer refusal state c.requires same shown))
    c.refuse.ensures

pub make-requires-clause-sealed : goal.make-requires-clause-sealed
make-requires-clause-sealed g c = served c.args.session.now.shapes.sealed _ c.args.shape.0 c.in_default.ensures

pub returns-in-Ok-clause-turn : goal.returns-in-Ok-clause-turn
returns-in-Ok-clause-turn g c state shown =
    let m = g.L.Leaf.model in
    subst (CarriesOut m c.make.new.session c.in-Ok.answer)
    (sym (default_served m c.args.session.now c.args.name c.args.shape.0 state shown c.in_default.ensures))
    (c.in-Ok.ensures.turn state shown)

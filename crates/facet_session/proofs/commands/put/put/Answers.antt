use Rattle.std.proofs.Common.{◌∙◌, ap, sym, subst, Some, None}
use Rattle.std.proofs.lemmas.Result.{IfOk-weaker}
use Rattle.facet_registry.proofs.SealedLeaves.{sealed_leaves}
use Rattle.facet_registry.specs.Registry.{kind_at}
use Rattle.facet_session.specs.declared.refusal.Refusal.TheVariants.{BadText}
use Rattle.facet_session.specs.Session.{CarriesOut}
use Rattle.facet_session.specs.commands.Put.{parsed_as}
use Rattle.facet_session.proofs.PutLemmas.{served, parsed_kind, put_refused, put_parsed}
use Rattle.facet_session.proofs.TurnLemmas.{refused_carried}
use Rattle.facet_session.proofs.commands.put.put.Goals as goal

pub returns-in-Some-clause-turn : goal.returns-in-Some-clause-turn
returns-in-Some-clause-turn g c =
    let m = g.L.Leaf.model in
    let session = c.args.session.now in
    let refusal = c.in-Some.refusal in
    IfOk-weaker c.refuse.result _ _
    (λ answer same state shown. subst (CarriesOut m session answer)
    (sym (put_refused m session c.args.name c.args.shape.0 c.args.text.now state shown refusal c.in-Some.ensures.first))
    (refused_carried m session answer refusal state c.requires same shown))
    c.refuse.ensures

pub parse-requires-clause-parses : goal.parse-requires-clause-parses
parse-requires-clause-parses g c = (served c.args.session.now.shapes.sealed _ c.args.shape.0 c.in_default.ensures.first).1

pub add_leaf-requires-clause-sealed : goal.add_leaf-requires-clause-sealed
add_leaf-requires-clause-sealed g c = (served c.args.session.now.shapes.sealed _ c.args.shape.0 c.in_default.ensures.first).0

pub add_leaf-requires-clause-kind : goal.add_leaf-requires-clause-kind
add_leaf-requires-clause-kind g c = parsed_kind g.L.Leaf.model g.met.L.Leaf.laws _ _ c.in-Some-2.leaf (sym c.in-Some-2.is ∙ c.in_ok-leaf.ensures)

pub add_leaf-requires-clause-room : goal.add_leaf-requires-clause-room
add_leaf-requires-clause-room g c =
    let of = parsed_kind g.L.Leaf.model g.met.L.Leaf.laws _ _ c.in-Some-2.leaf (sym c.in-Some-2.is ∙ c.in_ok-leaf.ensures) in
    let sealed = (served c.args.session.now.shapes.sealed _ c.args.shape.0 c.in_default.ensures.first).0 in
    (sealed_leaves g.L.Leaf.model c.args.session.now.shapes.sealed c.refusal_of.ensures.registry.well_formed c.args.shape.0 sealed).room _ of

pub returns-in-Some-2-clause-turn : goal.returns-in-Some-2-clause-turn
returns-in-Some-2-clause-turn g c =
    let m = g.L.Leaf.model in
    let session = c.args.session.now in
    let name = c.args.name in
    let s = c.args.shape.0 in
    let parsed = sym c.in-Some-2.is ∙ c.in_ok-leaf.ensures ∙ ap (parsed_as m (kind_at session.shapes.sealed s)) c.as_str.ensures in
    IfOk-weaker c.add_leaf.result _ _
    (λ answer carried state shown. subst (CarriesOut m c.add_leaf.new.session answer)
    (sym (put_parsed m session name s c.args.text.now state shown (Some c.in-Some-2.leaf) c.in_default.ensures.first parsed))
    (carried state shown))
    c.add_leaf.ensures.turn

pub returns-in-None-clause-turn : goal.returns-in-None-clause-turn
returns-in-None-clause-turn g c =
    let m = g.L.Leaf.model in
    let session = c.args.session.now in
    let s = c.args.shape.0 in
    let parsed = sym c.in-None.is ∙ c.in_ok-leaf.ensures ∙ ap (parsed_as m (kind_at session.shapes.sealed s)) c.as_str.ensures in
    IfOk-weaker c.refuse-in-None.result _ _
    (λ answer same state shown. subst (CarriesOut m session answer)
    (sym (put_parsed m session c.args.name s c.args.text.now state shown None c.in_default.ensures.first parsed))
    (refused_carried m session answer BadText state c.requires same shown))
    c.refuse-in-None.ensures

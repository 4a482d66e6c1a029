use Rattle.std.proofs.Common.{refl}
use Rattle.std.proofs.lemmas.Result.{IfOk-weaker}
use Rattle.facet_session.proofs.TupleParts.{has_parts}
use Rattle.facet_session.proofs.TurnLemmas.{next_carried}
use Rattle.facet_session.proofs.stepping.step.Goals as goal

pub returns-clause-turn : goal.returns-clause-turn
returns-clause-turn g c =
    IfOk-weaker c.carry_out.result _ _
    (λ answer. next_carried g.L.Leaf.model c.args.session.now _ c.carry_out.new.session answer c.args.line.now _ (record { registry = refl; cells = refl }) c.in_ok-command.ensures)
    c.carry_out.ensures.turn

pub carry_out-requires-clause-parts : goal.carry_out-requires-clause-parts
carry_out-requires-clause-parts g c = has_parts c.args.line.now _ c.in_ok-command.ensures

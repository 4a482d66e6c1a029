use Rattle.std.proofs.Common.{refl, ap, ◌∙◌, subst}
use Rattle.facet_causes.specs.First.{Explains}
use Rattle.facet_registry.specs.Registry.{all_shapes, without_drafts}
use Rattle.facet_session.specs.commands.Seal.{error_words}
use Rattle.facet_session.proofs.SealLemmas.{cut_carried, seal_carried}
use Rattle.facet_session.proofs.commands.seal.seal.Goals as goal

pub returns-in-Ok-clause-turn : goal.returns-in-Ok-clause-turn
returns-in-Ok-clause-turn g c state shown =
    seal_carried g.L.Leaf.model c.args.session.now (record { shapes = c.seal.new.self; cells = c.args.session.now.cells; log = c.args.session.now.log }) c.answer_without_leaves.result refl c.requires state shown
    c.in-Ok.ensures.registry c.in-Ok.ensures.ok c.in-Ok.ensures.sealed
    (c.answer_without_leaves.ensures ∙ ap (λ text. record { text = text; made = 0; dropped = 0 }) c.in_ok-text.ensures)

pub returns-clause-turn : goal.returns-clause-turn
returns-clause-turn g c state shown =
    cut_carried g.L.Leaf.model c.args.session.now (record { shapes = c.cut.new.self; cells = c.args.session.now.cells; log = c.args.session.now.log }) c.answer_without_leaves-in-Err-Refused.result refl c.requires state shown
    c.in-Err-Refused.error (subst (Explains g.L.Leaf.model (all_shapes c.args.session.now.shapes)) c.in-Err-Refused.field-0-is c.in-Err-Refused.ensures.refused) (c.cut.ensures ∙ ap without_drafts c.in-Err-Refused.ensures.err)
    (c.answer_without_leaves-in-Err-Refused.ensures ∙ ap (λ text. record { text = text; made = 0; dropped = 0 }) (c.in_ok-text-in-Err-Refused.ensures ∙ ap error_words c.in-Err-Refused.error-is))

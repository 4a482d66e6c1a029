use Rattle.std.proofs.Common.{◌∙◌, ◌≤◌, ◌+◌, ◌∷◌, ap, length, refl, subst, sym}
use Rattle.std.specs.Fmt.{decimal}
use Rattle.facet_declare.specs.Outcome.{declared_by}
use Rattle.facet_registry.specs.Registry.{all_shapes}
use Rattle.facet_session.proofs.ShapeLemmas.{one_more, shape_carried}
use Rattle.facet_session.proofs.commands.shape.shape.Goals as goal

pub returns-in-Ok-clause-turn : goal.returns-in-Ok-clause-turn
returns-in-Ok-clause-turn g c state shown =
    shape_carried g.L.Leaf.model c.args.session.now (record { shapes = c.declare.new.shapes; cells = c.args.session.now.cells; log = c.args.session.now.log }) c.answer_without_leaves.result refl c.requires.empty state shown
    c.args.decl.now c.in-Ok.field-0 (sym c.in-Ok.is ∙ c.in_ok-declare.ensures.answer) c.in_ok-declare.ensures.ok
    (c.answer_without_leaves.ensures ∙ ap (λ text. record { text = text; made = 0; dropped = 0 }) (c.in_ok-text.ensures ∙ ap (λ n. 35 ∷ decimal n) c.len.ensures))

pub returns-in-Ok-clause-few : goal.returns-in-Ok-clause-few
returns-in-Ok-clause-few g c =
    subst (λ r. length (all_shapes r) ≤ length (all_shapes c.args.session.now.shapes) + 1) (sym c.in_ok-declare.ensures.ok)
    (one_more c.args.session.now.shapes (declared_by g.L.Leaf.model (all_shapes c.args.session.now.shapes) c.args.decl.now))

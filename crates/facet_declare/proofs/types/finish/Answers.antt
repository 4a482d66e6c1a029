use Rattle.std.proofs.Common.{◌≡◌, ◌∙◌, Ok, ap, option_map, sym}
use Rattle.std.specs.Result.{result_ok}
use Rattle.facet_declare.specs.Outcome.{answer_to, declared_type, drafted, with_declared}
use Rattle.facet_shape.specs.ShapeBuilder.{built}
use Rattle.facet_shape.specs.WithoutSpare.{shape_without_spare}
use Rattle.facet_declare.proofs.BuiltByItems.{built_by_items}
use Rattle.facet_declare.proofs.types.finish.Goals as goal

pub returns-in_ok-draft-in-Ok-clause-answer : goal.returns-in_ok-draft-in-Ok-clause-answer
returns-in_ok-draft-in-Ok-clause-answer g c =
    let b = c.args.builder in
    let is : declared_type (built (shape_without_spare b)) ≡ drafted (shape_without_spare c.in-Ok.shape) =
    ap declared_type (built_by_items b ∙ ap (option_map shape_without_spare) (sym c.build.ensures ∙ ap result_ok c.in-Ok.is)) in
    ap Ok (ap (λ n. record { 0 = n }) c.in_ok-draft-in-Ok.ensures.id) ∙ ap (answer_to c.args.shapes.now) (sym is)

pub returns-in_ok-draft-in-Ok-clause-ok : goal.returns-in_ok-draft-in-Ok-clause-ok
returns-in_ok-draft-in-Ok-clause-ok g c =
    let b = c.args.builder in
    let is : declared_type (built (shape_without_spare b)) ≡ drafted (shape_without_spare c.in-Ok.shape) =
    ap declared_type (built_by_items b ∙ ap (option_map shape_without_spare) (sym c.build.ensures ∙ ap result_ok c.in-Ok.is)) in
    c.in_ok-draft-in-Ok.ensures.ok ∙ ap (with_declared c.args.shapes.now) (sym is)

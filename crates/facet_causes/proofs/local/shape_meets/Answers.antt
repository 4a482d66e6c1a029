use Rattle.std.proofs.Common.{◌≤◌, Any, ap, ◌∙◌}
use Rattle.facet_causes.specs.Reading.{layout_at}
use Rattle.facet_causes.proofs.Found.{answer_as}
use Rattle.facet_graph.specs.Repeats.{HasRepeat, HaveOverlap}
use Rattle.facet_outline.specs.Discriminant.{HasDiscriminantOutside, discriminants_of_kind}
use Rattle.facet_outline.specs.Field.{bodies, spans_of, tag_bytes}
use Rattle.facet_outline.specs.References.{references}
use Rattle.facet_outline.specs.ValueKind.{kind_of}
use Rattle.facet_causes.proofs.local.shape_meets.Goals as goal

pub returns-in-UnknownShape : goal.returns-in-UnknownShape
returns-in-UnknownShape g c =
    rw c.in-UnknownShape.is (answer_as c.is_unknown.result _ _ (ap (λ n. Any (λ id. n ≤ id.0) (references c.args.shape.now)) c.len.ensures) c.is_unknown.ensures)

pub returns-in-EagerForward : goal.returns-in-EagerForward
returns-in-EagerForward g c = rw c.in-EagerForward.is c.is_forward.ensures

pub returns-in-FieldOverlap : goal.returns-in-FieldOverlap
returns-in-FieldOverlap g c =
    let ty = c.args.shape.now.ty in
    let kind = c.kind_of-kind.ensures ∙ ap (λ e. kind_of e c.args.shape.now) c.element_of-element.ensures in
    rw c.in-FieldOverlap.is (answer_as c.has_overlap.result _ _ (ap (λ k. Any (λ body. HaveOverlap (spans_of (layout_at c.args.shapes.now) (tag_bytes k ty) body)) (bodies k ty)) kind) c.has_overlap.ensures)

pub returns-in-DiscriminantRepeated : goal.returns-in-DiscriminantRepeated
returns-in-DiscriminantRepeated g c =
    let kind = c.kind_of-kind.ensures ∙ ap (λ e. kind_of e c.args.shape.now) c.element_of-element.ensures in
    rw c.in-DiscriminantRepeated.is (answer_as c.is_repeated.result _ _ (ap (λ k. HasRepeat (discriminants_of_kind k c.args.shape.now.ty)) kind) c.is_repeated.ensures)

pub returns-in-DiscriminantRange : goal.returns-in-DiscriminantRange
returns-in-DiscriminantRange g c =
    let kind = c.kind_of-kind.ensures ∙ ap (λ e. kind_of e c.args.shape.now) c.element_of-element.ensures in
    rw c.in-DiscriminantRange.is (answer_as c.has_discriminant_outside.result _ _ (ap (λ k. HasDiscriminantOutside k c.args.shape.now.ty) kind) c.has_discriminant_outside.ensures)

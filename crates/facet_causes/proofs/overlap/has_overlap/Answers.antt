use Rattle.std.proofs.Common.{[], below_more, sym, refl, ◌∙◌, arith}
use Rattle.std.proofs.lemmas.Bool.{false≢true}
use Rattle.facet_causes.proofs.Found.{any_index, none_any}
use Rattle.facet_causes.specs.Reading.{layout_at}
use Rattle.facet_graph.specs.Repeats.{HaveOverlap}
use Rattle.facet_outline.specs.Field.{bodies, spans_of, tag_bytes}
use Rattle.facet_causes.proofs.overlap.has_overlap.Goals as goal

pub loop-i-preserved : goal.loop-i-preserved
loop-i-preserved c = below_more _ _ c.loop-i.invariant (λ met. false≢true (sym c.if-branch.false ∙ c.in_ok-body_overlaps.ensures.1 met))

pub returns-then-branch : goal.returns-then-branch
returns-then-branch c =
    let kind = c.args.kind in
    let ty = c.args.ty.now in
    let found = any_index (λ body. HaveOverlap (spans_of (layout_at c.args.shapes.now) (tag_bytes kind ty) body)) (bodies kind ty) [] c.loop-i.i (omega (arith, c.body_count-i-end.ensures)) (c.in_ok-body_overlaps.ensures.0 c.if-branch.true) in
    ((λ _. found), (λ _. refl))

pub returns : goal.returns
returns c =
    let kind = c.args.kind in
    let ty = c.args.ty.now in
    let none = none_any (λ body. HaveOverlap (spans_of (layout_at c.args.shapes.now) (tag_bytes kind ty) body)) (bodies kind ty) [] (λ i below. c.loop-i.invariant i (omega (arith, below, c.body_count-i-end.ensures))) in
    ((λ wrong. absurd (false≢true wrong)), (λ any. absurd (none any)))

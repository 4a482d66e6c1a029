use Rattle.std.proofs.Common.{refl, arith}
use Rattle.facet_graph.specs.declared.overlap.Span.{Span}
use Rattle.facet_graph.proofs.Spans.{apart_begins, apart_empty, apart_next, none_overlap, overlap_here}
use Rattle.facet_graph.proofs.overlap.neighbours_overlap.Goals as goal
use Rattle.facet_graph.proofs.overlap.neighbours_overlap.Goals.{then-span-gt0+else-span-last, else-span-gt0}

pub loop-span-init : goal.loop-span-init
loop-span-init c = apart_begins c.args.spans.now c.requires (record { offset = 0; size = 0 }) refl refl

pub returns-then-span-last : goal.returns-then-span-last
returns-then-span-last c =
    let none : Span = record { offset = 0; size = 0 } in
    (λ _. overlap_here c.args.spans.now c.requires c.loop-span.span-index c.loop-span.last none c.loop-span.invariant c.loop-span-test.true c.if-span-gt0.true c.if-span-last.true, λ _. refl)

pub loop-span-preserved : goal.loop-span-preserved
loop-span-preserved c =
    let xs = c.args.spans.now in
    let i = c.loop-span.span-index in
    let none : Span = record { offset = 0; size = 0 } in
    elim c.if-span-gt0.branch [
      | then-span-gt0+else-span-last w ↦ rw w.last-is (apart_next xs c.requires i c.loop-span.last none c.loop-span.invariant c.loop-span-test.true w.if-span-last.false)
      | else-span-gt0 w ↦ rw w.last-is (apart_empty xs c.requires i c.loop-span.last none c.loop-span.invariant c.loop-span-test.true w.if-span-gt0.false)
    ]

pub returns : goal.returns
returns c = (λ never. cc, λ overlap. absurd (none_overlap c.args.spans.now c.requires c.loop-span.span-index c.loop-span.last c.loop-span.invariant (omega arith) overlap))

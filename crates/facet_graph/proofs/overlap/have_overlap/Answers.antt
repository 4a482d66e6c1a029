use Rattle.std.proofs.Common.{rules, sym, subst}
use Rattle.std.specs.List.Sorted.{IsNonDecreasingBy}
use Rattle.std.proofs.lemmas.List.Sorted.{IsNonDecreasingBy-from_sort_by_key, IsPermutation-sym}
use Rattle.facet_graph.specs.Repeats.{HaveOverlap}
use Rattle.facet_graph.specs.declared.overlap.Span.{Span}
use Rattle.facet_graph.proofs.Spans.{overlap_moved}
use Rattle.facet_graph.proofs.overlap.have_overlap.Goals as goal

pub neighbours_overlap-requires : goal.neighbours_overlap-requires
neighbours_overlap-requires c = subst (IsNonDecreasingBy (λ (span : Span). span.offset)) (sym c.deref.ensures.value) (IsNonDecreasingBy-from_sort_by_key (λ (span : Span). span.offset) _ c.in_ok-sort_by_key.ensures.sorted (λ a r q k. search rules))

pub returns-clause-found : goal.returns-clause-found
returns-clause-found c =
    let old = c.args.spans.now.items in
    let new = c.sort_by_key.new.self.items in
    let moved = c.in_ok-sort_by_key.ensures.permutation in (
      λ found. overlap_moved old new moved (subst HaveOverlap c.deref.ensures.value (c.neighbours_overlap.ensures.0 found)),
      λ overlap. c.neighbours_overlap.ensures.1 (subst HaveOverlap (sym c.deref.ensures.value) (overlap_moved new old (IsPermutation-sym old new moved) overlap)),
    )

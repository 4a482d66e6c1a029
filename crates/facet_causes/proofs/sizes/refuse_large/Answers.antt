use Rattle.std.proofs.Common.{length, subst, sym, arith}
use Rattle.facet_causes.specs.declared.cause.SealCause.TheVariants as cause
use Rattle.facet_causes.proofs.Inside.{before_inside, inline_inside}
use Rattle.facet_causes.specs.Reading.{named_at}
use Rattle.facet_causes.proofs.NameLengths.{heights_named, lower_by, named_stays}
use Rattle.facet_causes.proofs.Sealed.{unweighted_inline}
use Rattle.facet_graph.specs.Cost.{unweighted}
use Rattle.facet_graph.specs.Height.{AreHeights}
use Rattle.facet_graph.specs.Reach.{StaysWithin}
use Rattle.facet_causes.proofs.sizes.refuse_large.Goals as goal

pub fill_heights-requires-clause-edges : goal.fill_heights-requires-clause-edges
fill_heights-requires-clause-edges g c = before_inside g.L.Leaf.model c.args.shapes.now (λ s below. c.requires.none_before cause.UnknownShape s (omega arith) below)

pub fill_costs-requires-clause-edges : goal.fill_costs-requires-clause-edges
fill_costs-requires-clause-edges g c =
    let shapes = c.args.shapes.now in
    subst (λ edges. StaysWithin edges (length shapes)) (sym (unweighted_inline shapes)) (inline_inside g.L.Leaf.model shapes (λ s below. c.requires.none_before cause.UnknownShape s (omega arith) below))

pub fill_costs-requires-clause-heights : goal.fill_costs-requires-clause-heights
fill_costs-requires-clause-heights g c =
    let shapes = c.args.shapes.now in
    subst (λ edges. AreHeights edges (length shapes) c.args.inline_heights.now) (sym (unweighted_inline shapes)) c.requires.inline_heights

pub first_too_large-found-requires-clause-sealed : goal.first_too_large-found-requires-clause-sealed
first_too_large-found-requires-clause-sealed g c = λ met s below. c.requires.sealed met s (omega (arith, below, c.len-sealed.ensures))

pub fill_costs-requires-2-clause-edges : goal.fill_costs-requires-2-clause-edges
fill_costs-requires-2-clause-edges g c =
    let shapes = c.args.shapes.now in
    named_stays shapes (length shapes) (before_inside g.L.Leaf.model shapes (λ s below. c.requires.none_before cause.UnknownShape s (omega arith) below))

pub fill_costs-requires-2-clause-heights : goal.fill_costs-requires-2-clause-heights
fill_costs-requires-2-clause-heights g c =
    let shapes = c.args.shapes.now in
    subst (AreHeights (unweighted (named_at shapes)) (length shapes)) (sym c.deref.ensures.value) (heights_named shapes c.fill_heights.new.heights.items c.in_ok-fill_heights.ensures.heights)

pub first_too_large-found-requires-clause-lower : goal.first_too_large-found-requires-clause-lower
first_too_large-found-requires-clause-lower g c = lower_by g.L.Leaf.model c.args.shapes.now (λ s below. c.requires.none_before cause.EagerForward s (omega arith) below)

use Rattle.std.proofs.Common.{arith}
use Rattle.facet_causes.specs.declared.cause.SealCause.TheVariants as cause
use Rattle.facet_causes.proofs.Inside.{inline_inside}
use Rattle.facet_causes.proofs.sizes.refuse_cycle.Goals as goal

pub fill_heights-requires-clause-edges : goal.fill_heights-requires-clause-edges
fill_heights-requires-clause-edges g c = inline_inside g.L.Leaf.model c.args.shapes.now (λ s below. c.requires.none_before cause.UnknownShape s (omega arith) below)

pub first_on_cycle-requires-clause-edges : goal.first_on_cycle-requires-clause-edges
first_on_cycle-requires-clause-edges g c = inline_inside g.L.Leaf.model c.args.shapes.now (λ s below. c.requires.none_before cause.UnknownShape s (omega arith) below)

use Rattle.std.proofs.Common.{◌≡◌, ◌++◌, drop}
use Rattle.facet_outline.specs.Discriminant.{discriminants_from}
use Rattle.facet_outline.proofs.discriminants.push_discriminants.Given as goal

abbrev pub invariant-loop-i : goal.invariant-loop-i
invariant-loop-i l = l.to.items ++ discriminants_from l.i (drop l.i l.variants) ≡ l.initial.to.items ++ discriminants_from 0 l.variants

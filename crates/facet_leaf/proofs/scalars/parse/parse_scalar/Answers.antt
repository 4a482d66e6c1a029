use Rattle.std.proofs.Common.{refl}
use Rattle.facet_leaf.specs.scalars.ScalarTexts.{scalar_parsed}
use Rattle.facet_leaf.proofs.scalars.parse.parse_scalar.Goals as goal

pub returns-in_ok-new-in-String-clause-parsed : goal.returns-in_ok-new-in-String-clause-parsed
unfolding scalar_parsed
returns-in_ok-new-in-String-clause-parsed c = rw (c.in-String.is, c.in_ok-new-in-String.ensures) refl

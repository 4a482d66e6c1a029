use Rattle.std.proofs.Common.{◌∙◌}
use Rattle.facet_leaf.proofs.Parsing.{complement_passed, complement_refused}
use Rattle.facet_leaf.proofs.scalars.convert.whole_below_zero.Goals as goal

pub returns-in_err-number : goal.returns-in_err-number
returns-in_err-number c = c.from_residual.ensures ∙ complement_refused c.args.kind c.args.n c.in_err-number.ensures

pub returns : goal.returns
returns c = c.signed_whole.ensures ∙ complement_passed c.args.kind c.args.n c.in_ok-number.number c.in_ok-number.ensures

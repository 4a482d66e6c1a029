use Rattle.std.proofs.Common.{◌∙◌, ap, option_map}
use Rattle.facet_leaf.proofs.Parsing.{truth_parsed}
use Rattle.facet_leaf.specs.scalars.ScalarTexts.{scalar_parsed}
use Rattle.facet_leaf.specs.declared.scalars.scalar.Scalar.TheVariants as scalar
use Rattle.facet_leaf.proofs.scalars.parse.parse_bool.Goals as goal

pub returns-in_err-ok : goal.returns-in_err-ok
unfolding scalar_parsed
returns-in_err-ok c = c.from_residual.ensures ∙ ap (option_map scalar.Bool) (c.in_err-ok.ensures.value ∙ truth_parsed c.args.text.now _ c.parse.ensures.value)

pub returns : goal.returns
unfolding scalar_parsed
returns c = ap (option_map scalar.Bool) (c.in_ok-ok.ensures.value ∙ truth_parsed c.args.text.now _ c.parse.ensures.value)

use Rattle.std.proofs.Common.{◌∙◌, ap, option_map}
use Rattle.facet_leaf.proofs.Parsing.{character_parsed}
use Rattle.facet_leaf.specs.scalars.ScalarTexts.{scalar_parsed}
use Rattle.facet_leaf.specs.declared.scalars.scalar.Scalar.TheVariants as scalar
use Rattle.facet_leaf.proofs.scalars.parse.parse_char.Goals as goal

pub returns-in_err-ok : goal.returns-in_err-ok
unfolding scalar_parsed
returns-in_err-ok c = c.from_residual.ensures ∙ ap (option_map scalar.Char) (c.in_err-ok.ensures.value ∙ character_parsed c.args.text.now _ c.utf8.text c.parse.ensures.value)

pub returns : goal.returns
unfolding scalar_parsed
returns c = ap (option_map scalar.Char) (c.in_ok-ok.ensures.value ∙ character_parsed c.args.text.now _ c.utf8.text c.parse.ensures.value)

use Rattle.std.proofs.Common.{◌∙◌, sym}
use Rattle.facet_leaf.proofs.Parsing.{other_parsed}
use Rattle.facet_leaf.proofs.scalars.parse.parse_non_string.Goals as goal

pub returns-in_default : goal.returns-in_default
returns-in_default c = c.parse_whole.ensures ∙ sym (other_parsed c.args.kind c.args.text.now c.in_default.not-Bool c.in_default.not-Char c.requires)

use Rattle.std.proofs.lemmas.Str.Pattern.{split_parts}
use Rattle.facet_declaration.proofs.CutTexts.{cut_found}
use Rattle.facet_declaration.proofs.cuts.cut_at.Goals as goal

pub returns : goal.returns
returns c = cut_found c.args.at c.args.text.now c.split_once.result (split_parts c.args.at c.args.text.now c.split_once.result c.split_once.ensures.cases c.requires)

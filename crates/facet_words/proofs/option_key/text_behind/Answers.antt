use Rattle.facet_words.proofs.OptionWords.{text_stripped}
use Rattle.facet_words.proofs.option_key.text_behind.Goals as goal

pub returns : goal.returns
returns c = text_stripped c.args.front.now c.args.text.now c.strip_prefix.result c.strip_prefix.ensures.cases

use Rattle.facet_grammar.proofs.Spellings.{spelling_read}
use Rattle.facet_grammar.proofs.laws.spellings_are_read.Goals as goal

pub returns : goal.returns
returns c = spelling_read

use Rattle.facet_grammar.proofs.CommandTexts.{command_text}
use Rattle.facet_words.proofs.WordBytes.{test_of_text}
use Rattle.facet_grammar.proofs.laws.commands_are_texts.Goals as goal

pub returns : goal.returns
returns c line command e = test_of_text line (command_text line command e)

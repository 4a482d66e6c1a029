use Rattle.facet_grammar.proofs.Spellings.{command_spelled}
use Rattle.facet_grammar.proofs.laws.commands_are_spelled.Goals as goal

pub returns : goal.returns
returns c = command_spelled

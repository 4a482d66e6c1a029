use Rattle.facet_leaf.proofs.OneLines.{scalar_debug_is_one_line}
use Rattle.facet_leaf.proofs.laws.debug_texts_are_one_line.Goals as goal

pub returns : goal.returns
returns c = scalar_debug_is_one_line

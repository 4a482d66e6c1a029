use Rattle.facet_leaf.proofs.Utf8Texts.{truth_text_is_utf8}
use Rattle.facet_leaf.proofs.scalars.texts.write_truth.Goals as goal

pub returns-then-truth-clause-utf8 : goal.returns-then-truth-clause-utf8
returns-then-truth-clause-utf8 g c = truth_text_is_utf8 c.args.truth

pub returns-else-truth-clause-utf8 : goal.returns-else-truth-clause-utf8
returns-else-truth-clause-utf8 g c = truth_text_is_utf8 c.args.truth

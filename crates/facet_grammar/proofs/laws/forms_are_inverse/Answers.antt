use Rattle.facet_grammar.proofs.Inverse.{forms_inverse}
use Rattle.facet_grammar.proofs.laws.forms_are_inverse.Goals as goal

pub returns : goal.returns
returns c = forms_inverse

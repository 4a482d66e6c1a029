use Rattle.facet_causes.proofs.VariantsDistinct.{variants_are_distinct}
use Rattle.facet_causes.proofs.laws.variants_are_distinct.Goals as goal

pub returns : goal.returns
returns g c = λ shapes well. variants_are_distinct g.L.Leaf.model shapes well

use Rattle.facet_causes.proofs.PartsKnown.{references_are_known}
use Rattle.facet_causes.proofs.laws.references_are_known.Goals as goal

pub returns : goal.returns
returns g c = λ shapes well. references_are_known g.L.Leaf.model shapes well

use Rattle.facet_values.proofs.FittingValues.{reading_fits}
use Rattle.facet_values.proofs.laws.readings_fit.Goals as goal

pub returns : goal.returns
returns g c = λ shapes p v. reading_fits g.L.Leaf.model shapes p v

use Rattle.facet_values.proofs.OneReading.{one_value}
use Rattle.facet_values.proofs.laws.one_reading.Goals as goal

pub returns : goal.returns
returns g c = one_value g.L.Leaf.model

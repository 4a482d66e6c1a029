use Rattle.facet_values.proofs.StayingReading.{leaf_stays, reads_longer, reads_shorter}
use Rattle.facet_values.proofs.laws.readings_stay.Goals as goal

pub returns-clause-value : goal.returns-clause-value
returns-clause-value g c = λ sealed more p v well known. (reads_longer g.L.Leaf.model sealed more well p v known, reads_shorter g.L.Leaf.model sealed more well p v known)

pub returns-clause-leaf : goal.returns-clause-leaf
returns-clause-leaf g c = λ sealed more p well known. leaf_stays g.L.Leaf.model sealed more well p known

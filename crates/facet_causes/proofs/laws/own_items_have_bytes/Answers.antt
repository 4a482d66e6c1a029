use Rattle.facet_causes.proofs.Bounded.{own_items_have_bytes}
use Rattle.facet_causes.proofs.laws.own_items_have_bytes.Goals as goal

pub returns : goal.returns
returns g c = λ shapes well. own_items_have_bytes g.L.Leaf.model shapes well

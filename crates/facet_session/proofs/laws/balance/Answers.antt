use Rattle.facet_session.proofs.BalanceLemmas.{conserved}
use Rattle.facet_session.proofs.laws.balance.Goals as goal

pub returns : goal.returns
returns g c = conserved g.L.Leaf.model

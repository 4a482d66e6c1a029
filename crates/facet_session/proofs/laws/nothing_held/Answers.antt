use Rattle.std.proofs.Common.{ap}
use Rattle.facet_session.specs.State.{leaves_of_entries}
use Rattle.facet_session.proofs.BalanceLemmas.{nothing_left}
use Rattle.facet_session.proofs.laws.nothing_held.Goals as goal

pub returns : goal.returns
returns g c script = ap leaves_of_entries (nothing_left g.L.Leaf.model script)

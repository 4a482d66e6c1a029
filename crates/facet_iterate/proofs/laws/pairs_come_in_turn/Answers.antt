use Rattle.facet_iterate.proofs.TurnLaws.{returns_first_pair, returns_last_pair}
use Rattle.facet_iterate.proofs.laws.pairs_come_in_turn.Goals as goal

pub returns-clause-next : goal.returns-clause-next
returns-clause-next g c = returns_first_pair g.L.Leaf.model

pub returns-clause-next_back : goal.returns-clause-next_back
returns-clause-next_back g c = returns_last_pair g.L.Leaf.model

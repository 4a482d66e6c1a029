use Rattle.facet_iterate.proofs.TurnLaws.{returns_first, returns_last}
use Rattle.facet_iterate.proofs.laws.elements_come_in_turn.Goals as goal

pub returns-clause-next : goal.returns-clause-next
returns-clause-next g c = returns_first g.L.Leaf.model

pub returns-clause-next_back : goal.returns-clause-next_back
returns-clause-next_back g c = returns_last g.L.Leaf.model

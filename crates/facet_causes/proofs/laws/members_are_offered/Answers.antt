use Rattle.facet_causes.proofs.MembersOffered.{members_are_offered}
use Rattle.facet_causes.proofs.laws.members_are_offered.Goals as goal

pub returns : goal.returns
returns g c = λ shapes well. members_are_offered g.L.Leaf.model shapes well

use Rattle.facet_values.proofs.LaidOut.{laid_out}
use Rattle.facet_values.proofs.PartPlaces.{parts_lie_in_block}
use Rattle.facet_values.proofs.part_laws.parts_lie_inside.Goals as goal

pub returns : goal.returns
returns g c = λ shapes p well known lies. parts_lie_in_block shapes p (laid_out g.L.Leaf.model shapes well p.shape known) lies

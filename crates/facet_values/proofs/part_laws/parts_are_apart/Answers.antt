use Rattle.facet_values.proofs.LaidOut.{laid_out}
use Rattle.facet_values.proofs.PartPlaces.{parts_share_no_byte}
use Rattle.facet_values.proofs.part_laws.parts_are_apart.Goals as goal

pub returns : goal.returns
returns g c = λ shapes p well known. parts_share_no_byte shapes p (laid_out g.L.Leaf.model shapes well p.shape known)

use Rattle.facet_base.proofs.BitSets.{and_is_intersection}
use Rattle.facet_base.proofs.laws.intersection_by_bits.Goals as goal

pub returns : goal.returns
returns g c = rw (c.intersection.ensures c.requires) (and_is_intersection _ _)

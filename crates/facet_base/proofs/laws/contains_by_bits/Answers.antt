use Rattle.facet_base.proofs.BitSets.{contains_is_part}
use Rattle.facet_base.proofs.laws.contains_by_bits.Goals as goal

pub returns : goal.returns
returns g c = rw (c.contains.ensures c.requires) (contains_is_part _ _)

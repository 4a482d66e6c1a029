use Rattle.facet_base.proofs.BitSets.{or_is_union}
use Rattle.facet_base.proofs.laws.insert_by_bits.Goals as goal

pub returns : goal.returns
returns g c = rw (c.insert.ensures c.requires) (or_is_union _ _)

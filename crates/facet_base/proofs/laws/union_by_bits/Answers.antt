use Rattle.facet_base.proofs.BitSets.{or_is_union}
use Rattle.facet_base.proofs.laws.union_by_bits.Goals as goal

pub returns : goal.returns
returns g c = rw (c.union.ensures c.requires) (or_is_union _ _)

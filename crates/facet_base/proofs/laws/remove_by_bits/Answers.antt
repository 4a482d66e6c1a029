use Rattle.facet_base.proofs.BitSets.{without_is_difference}
use Rattle.facet_base.proofs.laws.remove_by_bits.Goals as goal

pub returns : goal.returns
returns g c = λ set other. rw (c.remove.ensures c.requires) (without_is_difference _ _ _ set other)

use Rattle.facet_block.proofs.Ranges.{kept_apart}
use Rattle.facet_block.proofs.laws.what_is_apart_is_kept.Goals as goal

pub returns : goal.returns
returns g c = kept_apart

use Rattle.facet_outline.proofs.Rounding.{up_is_least_multiple}
use Rattle.facet_outline.proofs.laws.rounding_is_least.Goals as goal

pub returns : goal.returns
returns c = up_is_least_multiple

use Rattle.facet_type_name.proofs.FullNames.{all_levels_shown}
use Rattle.facet_type_name.proofs.laws.all_levels_are_the_full_name.Goals as goal

pub returns : goal.returns
returns c = all_levels_shown

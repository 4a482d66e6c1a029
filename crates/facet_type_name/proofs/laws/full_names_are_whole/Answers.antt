use Rattle.facet_type_name.proofs.FullNames.{one_level_more, whole_at_its_id}
use Rattle.facet_type_name.proofs.laws.full_names_are_whole.Goals as goal

pub returns : goal.returns
returns c = record { above = one_level_more; lower = whole_at_its_id }

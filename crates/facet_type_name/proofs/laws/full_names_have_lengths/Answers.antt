use Rattle.facet_type_name.proofs.FullNames.{name_length, name_of_none}
use Rattle.facet_type_name.proofs.laws.full_names_have_lengths.Goals as goal

pub returns : goal.returns
returns c = record { there = name_length; missing = name_of_none }

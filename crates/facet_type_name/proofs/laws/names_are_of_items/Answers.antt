use Rattle.facet_type_name.proofs.SameNames.{children_same, own_same, pieces_same}
use Rattle.facet_type_name.proofs.laws.names_are_of_items.Goals as goal

pub returns : goal.returns
returns c = record { pieces = pieces_same; own = own_same; children = children_same }

use Rattle.facet_type_name.proofs.NameChildren.{child_is_height}
use Rattle.facet_type_name.proofs.laws.name_children_are_references.Goals as goal

pub returns : goal.returns
returns c = child_is_height

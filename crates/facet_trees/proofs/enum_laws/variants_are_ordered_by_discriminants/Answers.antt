use Rattle.facet_trees.proofs.VariantsOfEnums.{ordered_by_discriminants}
use Rattle.facet_trees.proofs.enum_laws.variants_are_ordered_by_discriminants.Goals as goal

pub returns : goal.returns
returns g c shapes = ordered_by_discriminants g.L.Leaf.model shapes

use Rattle.facet_trees.proofs.VariantsOfEnums.{values_are_of_variants}
use Rattle.facet_trees.proofs.enum_laws.values_of_enums_are_of_variants.Goals as goal

pub returns : goal.returns
returns g c shapes = values_are_of_variants g.L.Leaf.model shapes

use Rattle.facet_base.specs.declared.characteristic.Characteristic.TheVariants as trait
use Rattle.facet_trees.specs.Order.{capability_of}
use Rattle.facet_trees.proofs.Unanswered.{of_map_or_set, uncompared, unordered}
use Rattle.facet_trees.proofs.answer_laws.maps_and_sets_have_no_answer.Goals as goal

pub returns : goal.returns
returns g c =
    let m = g.L.Leaf.model in
    record {
      order = λ shapes which s v w is. unordered m shapes which s v w (of_map_or_set shapes (capability_of which) s is);
      equality = λ shapes s v w is. uncompared m shapes s v w (of_map_or_set shapes trait.PartialEq s is);
    }

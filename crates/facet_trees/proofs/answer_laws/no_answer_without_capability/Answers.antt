use Rattle.facet_base.specs.declared.characteristic.Characteristic.TheVariants as trait
use Rattle.facet_trees.specs.Order.{capability_of}
use Rattle.facet_trees.proofs.Unanswered.{uncompared, unordered, without_capability}
use Rattle.facet_trees.proofs.answer_laws.no_answer_without_capability.Goals as goal

pub returns : goal.returns
returns g c =
    let m = g.L.Leaf.model in
    record {
      order = λ shapes which s v w none. unordered m shapes which s v w (without_capability shapes (capability_of which) s none);
      equality = λ shapes s v w none. uncompared m shapes s v w (without_capability shapes trait.PartialEq s none);
    }

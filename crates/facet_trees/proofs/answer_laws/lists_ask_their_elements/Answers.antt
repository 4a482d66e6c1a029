use Rattle.facet_base.specs.declared.characteristic.Characteristic.TheVariants as trait
use Rattle.facet_trees.specs.Order.{capability_of}
use Rattle.facet_trees.proofs.Unanswered.{uncompared, unordered, without_elements}
use Rattle.facet_trees.proofs.answer_laws.lists_ask_their_elements.Goals as goal

pub returns : goal.returns
returns g c =
    let m = g.L.Leaf.model in
    record {
      order = λ shapes which s element v w is among none. unordered m shapes which s v w (without_elements shapes (capability_of which) s element is among none);
      equality = λ shapes s element v w is among none. uncompared m shapes s v w (without_elements shapes trait.PartialEq s element is among none);
    }

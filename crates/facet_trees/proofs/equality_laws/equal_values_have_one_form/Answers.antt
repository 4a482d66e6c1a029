use Rattle.facet_trees.proofs.EqualValues.{equal_nodes}
use Rattle.facet_trees.proofs.equality_laws.equal_values_have_one_form.Goals as goal

pub returns : goal.returns
returns g c shapes s form other vs ws well fits also equal =
    let same = equal_nodes g.L.Leaf.model shapes well s form other vs ws fits also equal in
    (same.0, same.1)

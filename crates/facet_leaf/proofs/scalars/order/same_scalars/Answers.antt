use Rattle.std.proofs.Common.{◌∙◌, sym}
use Rattle.facet_leaf.specs.scalars.ScalarLaws.{same_of_one_kind}
use Rattle.facet_leaf.proofs.scalars.order.same_scalars.Goals as goal

pub returns : goal.returns
returns c = c.same_values.ensures ∙ sym (same_of_one_kind c.args.a.now c.args.b.now c.requires)

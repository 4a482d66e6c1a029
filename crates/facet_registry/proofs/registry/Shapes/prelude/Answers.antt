use Rattle.facet_registry.proofs.Preludes.{is_beside, is_prelude_by}
use Rattle.facet_registry.proofs.registry.Shapes.prelude.Goals as goal

pub invariant_of-result : goal.invariant_of-result
invariant_of-result g c = is_beside g.L.Leaf.model g.met.L.Leaf.laws _ _ c.in_ok-shapes.ensures c.in_ok-tables.ensures

pub returns : goal.returns
returns g c = is_prelude_by g.L.Leaf.model _ c.in_ok-shapes.ensures

use Rattle.facet_verdict.proofs.Naming.{none_named}
use Rattle.facet_verdict.proofs.laws.well_formed_shapes_have_no_cause.Goals as goal

pub returns : goal.returns
returns g c = none_named g.L.Leaf.model

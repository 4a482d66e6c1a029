use Rattle.std.proofs.Common.{◌++◌, length-append, arith}
use Rattle.facet_causes.proofs.Fronts.{slice_get_append}
use Rattle.facet_causes.proofs.Sealed.{front_meets_none}
use Rattle.facet_causes.proofs.laws.sealed_shapes_stay.Goals as goal

pub returns : goal.returns
returns g c = λ shapes drafts well. front_meets_none g.L.Leaf.model shapes (shapes ++ drafts) (omega (arith, length-append shapes drafts)) (λ s below. slice_get_append shapes drafts s below) well

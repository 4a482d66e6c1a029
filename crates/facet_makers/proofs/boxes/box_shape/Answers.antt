use Rattle.std.proofs.Common.{◌≡◌, ap, refl, ◌∙◌}
use Rattle.std.specs.Prelude.{codes}
use Rattle.facet_makers.specs.Generic.{with_parameter}
use Rattle.facet_makers.specs.Makers.{box_of, box_shape}
use Rattle.facet_makers.specs.Operations.{box_operations}
use Rattle.facet_makers.proofs.Filled.{filled}
use Rattle.facet_makers.proofs.boxes.box_shape.Goals as goal

pub returns : goal.returns
unfolding box_shape
returns g c =
    let is =
    c.in_ok-shape-2.ensures ∙ ap (with_parameter (codes "T") c.args.t) c.in_ok-shape.ensures in
    let d : c.box_def.result ≡ box_of box_operations c.args.t =
    rw (c.box_def.ensures, c.box_operations.ensures) refl in
    filled _ _ _ c.in_ok-shape-2.shape c.offering.result _ _ _ c.offering.ensures is d

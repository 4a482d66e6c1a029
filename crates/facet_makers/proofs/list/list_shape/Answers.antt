use Rattle.std.proofs.Common.{◌≡◌, Some, ap, refl, ◌∙◌}
use Rattle.std.specs.Prelude.{codes}
use Rattle.facet_def.specs.declared.def.Def.TheVariants as def
use Rattle.facet_makers.specs.Generic.{with_parameter}
use Rattle.facet_makers.specs.Makers.{list_shape}
use Rattle.facet_makers.specs.Operations.{element_operations, list_operations}
use Rattle.facet_makers.proofs.Filled.{filled_round}
use Rattle.facet_makers.proofs.list.list_shape.Goals as goal

pub returns : goal.returns
unfolding list_shape
returns g c =
    let is =
    c.in_ok-shape-2.ensures ∙ ap (with_parameter (codes "T") c.args.t) c.in_ok-shape.ensures in
    let d : def.List c.with_type_ops.result ≡ def.List (record { vtable = list_operations; type_ops = Some element_operations; t = c.args.t }) =
    rw (c.with_type_ops.ensures, c.list_operations.ensures, c.element_operations.ensures) refl in
    filled_round _ _ _ c.in_ok-shape-2.shape c.offering.result _ _ _ c.args.t c.offering.ensures is d

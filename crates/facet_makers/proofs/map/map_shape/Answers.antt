use Rattle.std.proofs.Common.{◌≡◌, ap, refl, ◌∙◌}
use Rattle.std.specs.Prelude.{codes}
use Rattle.facet_def.specs.declared.def.Def.TheVariants as def
use Rattle.facet_makers.specs.Generic.{with_parameter}
use Rattle.facet_makers.specs.Makers.{map_shape}
use Rattle.facet_makers.specs.Operations.{map_operations}
use Rattle.facet_makers.proofs.Filled.{filled}
use Rattle.facet_makers.proofs.map.map_shape.Goals as goal

pub returns : goal.returns
unfolding map_shape
returns g c =
    let is =
    c.in_ok-shape-3.ensures ∙ ap (with_parameter (codes "V") c.args.v) (c.in_ok-shape-2.ensures ∙ ap (with_parameter (codes "K") c.args.k) c.in_ok-shape.ensures) in
    let d : def.Map c.new.result ≡ def.Map (record { vtable = map_operations c.args.key c.args.value; k = c.args.k; v = c.args.v }) =
    rw (c.new.ensures, c.map_operations.ensures) refl in
    filled _ _ _ c.in_ok-shape-3.shape c.offering.result _ _ _ c.offering.ensures is d

use Rattle.std.proofs.Common.{◌≡◌, ap, refl, ◌∙◌}
use Rattle.std.specs.Prelude.{codes}
use Rattle.facet_def.specs.declared.def.Def.TheVariants as def
use Rattle.facet_makers.specs.Generic.{with_parameter}
use Rattle.facet_makers.specs.Makers.{slice_shape}
use Rattle.facet_makers.specs.Operations.{slice_operations}
use Rattle.facet_makers.proofs.Filled.{filled_round}
use Rattle.facet_makers.proofs.slice.slice_shape.Goals as goal

pub returns : goal.returns
unfolding slice_shape
returns g c =
    let is =
    c.in_ok-shape-2.ensures ∙ ap (with_parameter (codes "T") c.args.t) c.in_ok-shape.ensures in
    let d : def.Slice c.new.result ≡ def.Slice (record { vtable = slice_operations; t = c.args.t }) =
    rw (c.new.ensures, c.slice_operations.ensures) refl in
    filled_round _ _ _ c.in_ok-shape-2.shape c.offering.result _ _ _ c.args.t c.offering.ensures is d

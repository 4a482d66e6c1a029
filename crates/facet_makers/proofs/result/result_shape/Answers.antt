use Rattle.std.proofs.Common.{◌≡◌, ap, refl, ◌∙◌}
use Rattle.std.specs.Prelude.{codes}
use Rattle.facet_base.specs.declared.layout.ShapeLayout.TheVariants.{Sized}
use Rattle.facet_def.specs.declared.def.Def.TheVariants as def
use Rattle.facet_makers.specs.Types.{opaque}
use Rattle.facet_makers.specs.Generic.{in_module, with_parameter}
use Rattle.facet_makers.specs.Makers.{result_shape}
use Rattle.facet_makers.specs.Operations.{result_operations}
use Rattle.facet_makers.proofs.Filled.{filled}
use Rattle.facet_makers.proofs.result.result_shape.Goals as goal

pub returns : goal.returns
unfolding result_shape
returns g c =
    let is =
    c.in_ok-shape-3.ensures
    ∙ ap (with_parameter (codes "E") c.args.e) (c.in_ok-shape-2.ensures ∙ ap (with_parameter (codes "T") c.args.t) c.in_ok-shape.ensures)
    ∙ ap (λ l. with_parameter (codes "E") c.args.e (with_parameter (codes "T") c.args.t (in_module (codes "Result") (codes "core::result") opaque (Sized l)))) c.result_layout.ensures in
    let d : def.Result c.new.result ≡ def.Result (record { vtable = result_operations; t = c.args.t; e = c.args.e }) =
    rw (c.new.ensures, c.result_operations.ensures) refl in
    filled _ _ _ c.in_ok-shape-3.shape c.offering.result _ _ _ c.offering.ensures is d

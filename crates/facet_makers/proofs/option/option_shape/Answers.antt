use Rattle.std.proofs.Common.{◌≡◌, ap, refl, ◌∙◌}
use Rattle.std.specs.Prelude.{codes}
use Rattle.facet_base.specs.declared.layout.ShapeLayout.TheVariants.{Sized}
use Rattle.facet_def.specs.declared.def.Def.TheVariants as def
use Rattle.facet_makers.specs.Types.{option_type}
use Rattle.facet_makers.specs.Generic.{in_module, with_parameter}
use Rattle.facet_makers.specs.Makers.{option_shape}
use Rattle.facet_makers.specs.Operations.{option_operations}
use Rattle.facet_makers.proofs.Filled.{filled_round}
use Rattle.facet_makers.proofs.option.option_shape.Goals as goal

pub returns : goal.returns
unfolding option_shape
returns g c =
    let is =
    c.in_ok-shape-2.ensures
    ∙ ap (with_parameter (codes "T") c.args.t) c.in_ok-shape.ensures
    ∙ ap (λ ty. with_parameter (codes "T") c.args.t (in_module (codes "Option") (codes "core::option") ty (Sized c.option_layout.result))) c.in_ok-ty.ensures
    ∙ ap (λ l. with_parameter (codes "T") c.args.t (in_module (codes "Option") (codes "core::option") (option_type c.args.t c.args.part) (Sized l))) c.option_layout.ensures in
    let d : def.Option c.new.result ≡ def.Option (record { vtable = option_operations; t = c.args.t }) =
    rw (c.new.ensures, c.option_operations.ensures) refl in
    filled_round _ _ _ c.in_ok-shape-2.shape c.offering.result _ _ _ c.args.t c.offering.ensures is d

use Rattle.std.proofs.Common.{◌≡◌, ap, refl, ◌∙◌}
use Rattle.std.specs.Prelude.{codes}
use Rattle.facet_base.specs.declared.layout.ShapeLayout.TheVariants.{Sized}
use Rattle.facet_def.specs.declared.def.Def.TheVariants as def
use Rattle.facet_desc.specs.declared.sequence.SequenceType.TheVariants as sequence
use Rattle.facet_desc.specs.declared.ty.Ty.TheVariants as ty
use Rattle.facet_makers.specs.Generic.{built_in, with_length, with_parameter}
use Rattle.facet_makers.specs.Makers.{array_shape}
use Rattle.facet_makers.specs.Operations.{array_operations}
use Rattle.facet_makers.proofs.Filled.{filled_round}
use Rattle.facet_makers.proofs.array.array_shape.Goals as goal

pub returns : goal.returns
unfolding array_shape
returns g c =
    let is =
    c.in_ok-shape-3.ensures
    ∙ ap (with_length c.args.n) (c.in_ok-shape-2.ensures ∙ ap (with_parameter (codes "T") c.args.t) c.in_ok-shape.ensures)
    ∙ ap (λ l. with_length c.args.n (with_parameter (codes "T") c.args.t (built_in (codes "[T; N]") (codes "#array#[T; N]") (ty.Sequence (sequence.Array (record { t = c.args.t; n = c.args.n }))) (Sized l)))) c.array_layout.ensures in
    let d : def.Array c.new.result ≡ def.Array (record { vtable = array_operations; t = c.args.t; n = c.args.n }) =
    rw (c.new.ensures, c.array_operations.ensures) refl in
    filled_round _ _ _ c.in_ok-shape-3.shape c.offering.result _ _ _ c.args.t c.offering.ensures is d

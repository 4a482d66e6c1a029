use Rattle.std.proofs.Common.{◌∙◌, Some, ap}
use Rattle.facet_caps.specs.declared.type_ops.TypeOps.TheVariants as ops
use Rattle.facet_caps.specs.declared.type_ops.TypeOpsDirect.{TypeOpsDirect}
use Rattle.facet_caps.specs.declared.vtable.VTableDirect.{VTableDirect}
use Rattle.facet_caps.specs.declared.vtable_erased.VTableErased.TheVariants as erased
use Rattle.facet_declare.specs.Described.{capabilities}
use Rattle.facet_declare.specs.Options.{with_options}
use Rattle.facet_desc.specs.WithoutSpare.{ty_without_spare}
use Rattle.facet_outline.specs.Layout.{sized}
use Rattle.facet_shape.specs.ShapeBuilder.{fresh_shape}
use Rattle.facet_shape.specs.WithoutSpare.{shape_without_spare}
use Rattle.facet_shape.specs.declared.shape.Shape.{Shape}
use Rattle.facet_declare.proofs.described.described.Goals as goal

pub returns : goal.returns
unfolding with_options
returns c =
    let t = ty_without_spare c.args.ty in
    let can = λ (v : VTableDirect) (o : TypeOpsDirect) (s : Shape). record s { vtable = erased.Direct v; type_ops = Some (ops.Direct o); ty = t } in
    let v = c.capabilities.result in
    let o = c.operations.result in
    let options = c.args.options in
    let name = c.args.name.now in
    let size = sized c.args.head.size c.args.head.align in
    ap shape_without_spare
    (c.ty-builder.ensures
    ∙ ap (λ (s : Shape). record s { ty = c.args.ty }) (c.type_ops_direct.ensures ∙ ap (λ (s : Shape). record s { type_ops = Some (ops.Direct o) }) c.vtable_direct.ensures))
    ∙ ap (can v o) (c.in_ok-begin.ensures ∙ ap (λ l. with_options options (fresh_shape name l)) c.sized.ensures)
    ∙ ap (λ w. can w o (with_options options (fresh_shape name size))) c.capabilities.ensures
    ∙ ap (λ w. can (capabilities c.args.head.caps) w (with_options options (fresh_shape name size))) c.operations.ensures

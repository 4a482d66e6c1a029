use Rattle.std.proofs.Common.{◌∙◌, Some, ap}
use Rattle.facet_base.specs.declared.layout.ShapeLayout.{ShapeLayout}
use Rattle.facet_base.specs.declared.layout.ShapeLayout.TheVariants.{Unsized}
use Rattle.facet_caps.specs.declared.type_ops.TypeOps.TheVariants as ops
use Rattle.facet_caps.specs.declared.type_ops.TypeOpsDirect.{TypeOpsDirect}
use Rattle.facet_caps.specs.declared.vtable.VTableDirect.{VTableDirect}
use Rattle.facet_caps.specs.declared.vtable_erased.VTableErased.TheVariants as erased
use Rattle.facet_declare.specs.Described.{capabilities}
use Rattle.facet_def.specs.declared.def.Def.TheVariants as def
use Rattle.facet_makers.specs.Types.{opaque}
use Rattle.facet_outline.specs.Layout.{sized}
use Rattle.facet_shape.specs.ShapeBuilder.{fresh_shape}
use Rattle.facet_shape.specs.WithoutSpare.{shape_without_spare}
use Rattle.facet_shape.specs.declared.shape.Shape.{Shape}
use Rattle.facet_declare.proofs.described.scalar.Goals as goal

pub returns : goal.returns
unfolding fresh_shape
returns c =
    let k = c.args.kind in
    let can = λ (l : ShapeLayout) (v : VTableDirect) (o : TypeOpsDirect) (s : Shape). record s { layout = l; vtable = erased.Direct v; type_ops = Some (ops.Direct o); ty = opaque; def = def.Scalar; scalar = Some k } in
    let l = sized c.args.head.size c.args.head.align in
    let v = c.capabilities.result in
    let o = c.operations.result in
    let fresh = fresh_shape c.args.name.now Unsized in
    ap shape_without_spare
    (c.scalar-builder.ensures
    ∙ ap (λ (s : Shape). record s { scalar = Some k })
    (c.def.ensures
    ∙ ap (λ (s : Shape). record s { def = def.Scalar })
    (c.ty.ensures
    ∙ ap (λ (s : Shape). record s { ty = opaque })
    (c.type_ops_direct.ensures
    ∙ ap (λ (s : Shape). record s { type_ops = Some (ops.Direct o) })
    (c.vtable_direct.ensures
    ∙ ap (λ (s : Shape). record s { vtable = erased.Direct v }) c.layout.ensures)))))
    ∙ ap (can c.sized.result v o) (c.for_unsized.ensures ∙ ap (λ n. fresh_shape n Unsized) c.in_ok-try_clone.ensures)
    ∙ ap (λ w. can w v o fresh) c.sized.ensures
    ∙ ap (λ w. can l w o fresh) c.capabilities.ensures
    ∙ ap (λ w. can l (capabilities c.args.head.caps) w fresh) c.operations.ensures

use Rattle.std.proofs.Common.{◌≡◌, ◌∙◌, ap, sym}
use Rattle.std.specs.Result.{result_ok}
use Rattle.facet_base.specs.declared.layout.ShapeLayout.TheVariants as layout
use Rattle.facet_shape.specs.ShapeBuilder.{fresh_shape}
use Rattle.facet_shape.specs.WithoutSpare.{shape_without_spare}
use Rattle.facet_shape.specs.declared.shape.Shape.{Shape}
use Rattle.facet_makers.proofs.Fresh.{fresh_built, fresh_is_built}
use Rattle.facet_makers.specs.Types.{opaque}
use Rattle.facet_makers.proofs.generic.fresh.Goals as goal

pub unreachable-requires : goal.unreachable-requires
unreachable-requires c =
    let s = c.for_unsized.result in
    let is : shape_without_spare s ≡ fresh_shape c.args.identifier.now layout.Unsized = c.for_unsized.ensures ∙ ap (λ i. fresh_shape i layout.Unsized) c.in_ok-identifier.ensures in
    let given : c.ty-builder.result ≡ record s { layout = c.args.layout; ty = opaque } =
    c.ty-builder.ensures ∙ ap (λ (t : Shape). record t { ty = opaque }) c.layout.ensures in
    fresh_is_built c.args.identifier.now c.args.layout s is _ given (sym (ap result_ok c.in-Err.is) ∙ c.build.ensures)

pub returns : goal.returns
returns c =
    let s = c.for_unsized.result in
    let is : shape_without_spare s ≡ fresh_shape c.args.identifier.now layout.Unsized = c.for_unsized.ensures ∙ ap (λ i. fresh_shape i layout.Unsized) c.in_ok-identifier.ensures in
    let given : c.ty-builder.result ≡ record s { layout = c.args.layout; ty = opaque } =
    c.ty-builder.ensures ∙ ap (λ (t : Shape). record t { ty = opaque }) c.layout.ensures in
    fresh_built c.args.identifier.now c.args.layout s is _ c.in-Ok.shape given c.in-Ok.ensures c.args.decl_id

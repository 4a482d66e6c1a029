use Rattle.std.proofs.Common.{◌≡◌, ap, ◌∙◌}
use Rattle.facet_base.specs.Fnv.{fnv, fnv_start}
use Rattle.facet_base.specs.declared.decl_id.DeclId.{DeclId}
use Rattle.facet_desc.specs.WithoutSpare.{ty_without_spare}
use Rattle.facet_shape.specs.ShapeBuilder.{fresh_shape}
use Rattle.facet_shape.specs.WithoutSpare.{shape_without_spare}
use Rattle.facet_shape.specs.declared.shape.Shape.{Shape}
use Rattle.facet_makers.specs.Generic.{built_in}
use Rattle.facet_makers.proofs.generic.built_in.Goals as goal

pub returns : goal.returns
unfolding built_in
returns c =
    let t = ty_without_spare c.args.ty in
    let d : c.new.result ≡ record { 0 = fnv fnv_start c.args.declaration.now } = ap (λ n. record { 0 = n }) (c.new.ensures ∙ c.decl_id_hash-hash.ensures) in
    ap shape_without_spare c.with_type.ensures
    ∙ ap (λ (s : Shape). record s { ty = t }) c.in_ok-shape.ensures
    ∙ ap (λ (n : DeclId). record (fresh_shape c.args.identifier.now c.args.layout) { decl_id = n; ty = t }) d

use Rattle.std.proofs.Common.{◌∙◌, ap}
use Rattle.facet_declare.specs.Parts.{declared_body}
use Rattle.facet_desc.specs.Variant.{fresh_variant}
use Rattle.facet_desc.specs.WithoutSpare.{struct_without_spare, variant_without_spare}
use Rattle.facet_desc.specs.declared.variant.Variant.{Variant}
use Rattle.facet_declare.proofs.parts.declared_variant.Goals as goal

pub returns : goal.returns
unfolding variant_without_spare
returns c =
    let v = c.args.variant.now in
    ap (λ (w : Variant). record w { discriminant = v.discriminant })
    (ap variant_without_spare c.build-made.ensures
    ∙ c.new.ensures.fresh
    ∙ ap (λ name. fresh_variant name (struct_without_spare c.in_ok-body.body)) c.in_ok-name.ensures
    ∙ ap (fresh_variant v.name) (c.in_ok-body.ensures ∙ ap (declared_body v.kind) c.as_slice.ensures))

use Rattle.std.proofs.Common.{◌≡◌, ◌∙◌, List, IfOk, false, ap, map, subst}
use Rattle.facet_base.specs.Many.{of_items}
use Rattle.facet_declare.specs.Described.{type_described}
use Rattle.facet_declare.specs.Options.{Options}
use Rattle.facet_declare.specs.Parts.{declared_variant}
use Rattle.facet_desc.specs.WithoutSpare.{enum_without_spare, variant_without_spare}
use Rattle.facet_desc.specs.declared.repr.Repr.{Repr}
use Rattle.facet_desc.specs.declared.ty.Ty.{Ty}
use Rattle.facet_desc.specs.declared.ty.Ty.TheVariants as ty
use Rattle.facet_desc.specs.declared.ty.UserType.TheVariants as user
use Rattle.facet_desc.specs.declared.variant.Variant.{Variant}
use Rattle.facet_shape.specs.WithoutSpare.{shape_without_spare}
use Rattle.facet_declare.proofs.described.enum_type.Goals as goal

pub returns : goal.returns
unfolding enum_without_spare
returns c =
    let head = c.args.head in
    let enum = λ (r : Repr) (variants : List Variant). ty.User (user.Enum (record { repr = r; enum_repr = c.args.enum_repr; variants = of_items variants; is_cow = false })) in
    let r = c.options.inside.repr in
    let is : enum r (map variant_without_spare c.in_ok-declared_variants.field-0.items) ≡ enum c.args.options.repr (map declared_variant c.args.variants.now) =
    ap (enum r) c.in_ok-declared_variants.ensures ∙ ap (λ (o : Options). enum o.repr (map declared_variant c.args.variants.now)) c.options.view_is in
    subst (λ (t : Ty). IfOk c.described.result (λ builder. shape_without_spare builder ≡ type_described c.args.name.now head.size head.align head.caps c.args.options t)) is c.described.ensures

use Rattle.std.proofs.Common.{◌≡◌, List, ℕ, [], ◌∷◌, ◌++◌, pos, ap, ◌∙◌}
use Rattle.std.specs.Prelude.{codes}
use Rattle.facet_desc.specs.Field.{fresh_field}
use Rattle.facet_desc.specs.Variant.{fresh_variant}
use Rattle.facet_desc.specs.WithoutSpare.{variant_without_spare}
use Rattle.facet_desc.specs.declared.struct_type.StructKind.TheVariants as struct_kind
use Rattle.facet_makers.specs.Types.{rust_struct}
use Rattle.facet_outline.specs.Layout.{option_offset}
use Rattle.facet_makers.proofs.Variants.{numbered, tuple_of_one}
use Rattle.facet_makers.proofs.types.some_variant.Goals as goal

pub returns : goal.returns
returns c =
    let f = c.in_ok-only_field.field-0 in
    let items : c.push.new.self.items ≡ f ∷ [] = c.in_ok-push.ensures.ok ∙ ap (λ xs. xs ++ f ∷ []) c.new-fields.ensures in
    let is = c.in_ok-only_field.ensures ∙ ap (fresh_field (codes "0") c.args.t) c.option_offset.ensures in
    ap variant_without_spare (c.build.ensures ∙ c.discriminant.ensures)
    ∙ numbered (pos 1) c.tuple.result _
    (tuple_of_one c.tuple.result c.in_ok-name.name _ f _ c.tuple.ensures.fresh c.tuple.ensures.body items is
    ∙ ap (λ (name : List ℕ). fresh_variant name (rust_struct struct_kind.TupleStruct (fresh_field (codes "0") c.args.t (option_offset c.args.part) ∷ []))) c.in_ok-name.ensures)

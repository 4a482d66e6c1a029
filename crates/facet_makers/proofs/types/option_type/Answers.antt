use Rattle.std.proofs.Common.{◌≡◌, [], ◌∷◌, ◌++◌, ap, ◌∙◌}
use Rattle.facet_makers.proofs.Variants.{option_type_built}
use Rattle.facet_makers.proofs.types.option_type.Goals as goal

pub returns : goal.returns
returns c =
    let a = c.in_ok-none_variant.field-0 in
    let b = c.in_ok-some_variant.field-0 in
    let items : c.push-2.new.self.items ≡ a ∷ b ∷ [] = c.in_ok-push-2.ensures.ok ∙ ap (λ xs. xs ++ b ∷ []) (c.in_ok-push.ensures.ok ∙ ap (λ xs. xs ++ a ∷ []) c.new-variants.ensures) in
    option_type_built c.args.t c.args.part c.push-2.new.self a b items c.in_ok-none_variant.ensures c.in_ok-some_variant.ensures

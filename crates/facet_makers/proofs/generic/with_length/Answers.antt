use Rattle.std.proofs.Common.{◌≡◌, [], ◌∷◌, ◌++◌, ap, refl, ◌∙◌}
use Rattle.facet_desc.specs.declared.parameter.ConstParamKind.TheVariants as const
use Rattle.facet_makers.specs.Generic.{length_parameter, with_length}
use Rattle.facet_makers.proofs.generic.with_length.Goals as goal

pub returns : goal.returns
unfolding with_length
returns c =
    let s = c.args.shape in
    let params : c.push.new.self.items ≡ s.const_params.items ++ length_parameter c.args.n ∷ [] =
    c.in_ok-push.ensures.ok ∙ ap (λ name. s.const_params.items ++ record { name = name; value = c.args.n; kind = const.Usize } ∷ []) c.in_ok-name.ensures in
    rw params refl

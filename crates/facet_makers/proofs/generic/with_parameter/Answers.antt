use Rattle.std.proofs.Common.{◌≡◌, [], ◌∷◌, ◌++◌, ap, refl, ◌∙◌}
use Rattle.facet_makers.specs.Generic.{covariant, parameter, with_parameter}
use Rattle.facet_makers.proofs.generic.with_parameter.Goals as goal

pub returns : goal.returns
unfolding with_parameter
returns c =
    let s = c.args.shape in
    let params : c.push.new.self.items ≡ s.type_params.items ++ parameter c.args.name.now c.args.t ∷ [] =
    c.in_ok-push.ensures.ok ∙ ap (λ name. s.type_params.items ++ parameter name c.args.t ∷ []) c.in_ok-name.ensures in
    let deps : c.push-2.new.self.items ≡ s.variance.deps.items ++ covariant c.args.t ∷ [] =
    c.in_ok-push-2.ensures.ok ∙ ap (λ dep. s.variance.deps.items ++ dep ∷ []) c.covariant.ensures in
    rw (params, deps) refl

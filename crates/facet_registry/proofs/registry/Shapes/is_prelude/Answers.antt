use Rattle.std.proofs.Common.{◌≡◌, ◌∙◌, subst, sym, ap, length, eq-eqb}
use Rattle.std.proofs.lemmas.Bool.{eqb-true}
use Rattle.facet_registry.specs.Registry.{all_shapes}
use Rattle.facet_registry.specs.WellFormed.{IsRegistry}
use Rattle.facet_registry.proofs.Drafts.{all_of}
use Rattle.facet_registry.proofs.Preludes.{prelude_alone, length_prelude}
use Rattle.facet_registry.proofs.registry.Shapes.is_prelude.Goals as goal

pub returns : goal.returns
returns g c =
    let now = c.args.self.now in
    let m = g.L.Leaf.model in
    let is : IsRegistry m now = subst (IsRegistry m) c.self.view_is c.self.invariant.is in
    let count : c.len.result ≡ length (all_shapes now) = c.len.ensures ∙ ap length (all_of now c.self.inside.sealed c.self.inside.shapes c.self.view_is) in (
      (λ test. prelude_alone m now is (sym count ∙ eqb-true c.len.result 16 test)),
      (λ same. eq-eqb c.len.result 16 (count ∙ length_prelude m now same)),
    )

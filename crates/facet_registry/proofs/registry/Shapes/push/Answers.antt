use Rattle.std.proofs.Common.{ℕ, ◌+◌, ◌<◌, ◌^◌, ◌∙◌, ap, arith, length, subst, sym}
use Rattle.facet_shape.specs.declared.shape.Shape.{Shape}
use Rattle.facet_shape.specs.WithoutSpare.{shape_without_spare}
use Rattle.facet_registry.specs.Registry.{sealed_until, with_id}
use Rattle.facet_registry.specs.WellFormed.{IsRegistryBeside}
use Rattle.facet_registry.proofs.Drafts.{all_of, beside_with_draft, until_last, with_last}
use Rattle.facet_registry.proofs.registry.Shapes.push.Goals as goal

pub invariant_of-self-2 : goal.invariant_of-self-2
invariant_of-self-2 g c =
    let inside = c.self.inside in
    let count = ap length (all_of c.args.self.now inside.sealed inside.shapes c.self.view_is) in
    let room : length inside.shapes + 1 < 2 ^ 32 = omega (arith, c.requires, count) in
    subst (λ xs. IsRegistryBeside g.L.Leaf.model inside.sealed xs inside.tables) (sym c.in_ok-push.ensures.ok)
    (beside_with_draft g.L.Leaf.model inside.sealed inside.shapes inside.tables c.self.invariant _ (c.len.ensures ∙ sym count) room)

pub returns-clause-ok : goal.returns-clause-ok
returns-clause-ok g c =
    let inside = c.self.inside in
    let draft : ℕ → Shape = λ id. with_id id (shape_without_spare c.args.shape) in
    ap (sealed_until inside.sealed) c.in_ok-push.ensures.ok
    ∙ until_last inside.sealed inside.shapes (draft c.len.result) c.self.invariant.within
    ∙ ap (λ r. with_last r (draft c.len.result)) c.self.view_is
    ∙ ap (λ id. with_last c.args.self.now (draft id)) c.len.ensures

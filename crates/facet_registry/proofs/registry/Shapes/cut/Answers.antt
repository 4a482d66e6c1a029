use Rattle.std.proofs.Common.{◌∙◌, ap, subst, sym}
use Rattle.facet_registry.specs.Registry.{sealed_until, without_drafts}
use Rattle.facet_registry.specs.WellFormed.{IsRegistryBeside}
use Rattle.facet_registry.proofs.Drafts.{beside_without_drafts, until_cut}
use Rattle.facet_registry.proofs.registry.Shapes.cut.Goals as goal

pub invariant_of-self : goal.invariant_of-self
invariant_of-self g c =
    let inside = c.self.inside in
    subst (λ xs. IsRegistryBeside g.L.Leaf.model inside.sealed xs inside.tables) (sym c.truncate.ensures)
    (beside_without_drafts g.L.Leaf.model inside.sealed inside.shapes inside.tables c.self.invariant)

pub returns : goal.returns
returns g c =
    let inside = c.self.inside in
    ap (sealed_until inside.sealed) c.truncate.ensures ∙ until_cut inside.sealed inside.shapes ∙ ap without_drafts c.self.view_is

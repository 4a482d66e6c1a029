use Rattle.std.proofs.Common.{◌∙◌, ap, arith, length, subst, sym}
use Rattle.std.proofs.lemmas.List.{take-append-drop}
use Rattle.facet_causes.specs.Causes.{IsWellFormed}
use Rattle.facet_registry.specs.Registry.{all_sealed, sealed_until}
use Rattle.facet_registry.specs.WellFormed.{IsRegistryBeside}
use Rattle.facet_registry.proofs.Drafts.{all_of, beside_all_sealed, until_end}
use Rattle.facet_registry.proofs.registry.Shapes.seal.Goals as goal

pub check-requires-clause-few : goal.check-requires-clause-few
check-requires-clause-few g c = omega (arith, c.self.invariant.is.few, ap length (take-append-drop c.self.inside.sealed c.self.inside.shapes))

pub invariant_of-self-2 : goal.invariant_of-self-2
invariant_of-self-2 g c =
    let inside = c.self.inside in
    subst (λ n. IsRegistryBeside g.L.Leaf.model n inside.shapes c.check.new.tables) (sym c.len-self-inside.ensures)
    (beside_all_sealed g.L.Leaf.model inside.sealed inside.shapes inside.tables c.self.invariant c.check.new.tables c.in_ok-check.ensures.ok c.in_ok-check.ensures.tables)

pub returns-clause-ok : goal.returns-clause-ok
returns-clause-ok g c = subst (IsWellFormed g.L.Leaf.model) (all_of c.args.self.now c.self.inside.sealed c.self.inside.shapes c.self.view_is) c.in_ok-check.ensures.ok

pub returns-clause-sealed : goal.returns-clause-sealed
returns-clause-sealed g c =
    let inside = c.self.inside in
    ap (λ n. sealed_until n inside.shapes) c.len-self-inside.ensures ∙ until_end inside.sealed inside.shapes ∙ ap all_sealed c.self.view_is

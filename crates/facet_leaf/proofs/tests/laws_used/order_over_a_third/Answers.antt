use Rattle.std.proofs.Common.{◌≡◌, true, sym, subst, ◌∙◌}
use Rattle.facet_base.specs.declared.characteristic.Characteristic.TheVariants as characteristic
use Rattle.facet_leaf.proofs.tests.laws_used.order_over_a_third.Goals as goal

pub returns-in-Less-Less : goal.returns-in-Less-Less
returns-in-Less-Less g c =
    let m = g.L.Leaf.model in
    let later = subst (λ k. m.can k characteristic.Ord ≡ true) c.requires.one_kind c.requires.can in
    c.order-in-Less-Less.ensures
    ∙ g.met.L.Leaf.laws.order_transitive c.args.a.now c.args.b.now c.args.c.now (record { can = c.requires.can; one_kind = c.requires.one_kind }) (record { can = later; one_kind = c.requires.third }) (sym c.order.ensures ∙ c.in-Less-Less.is-0) (sym c.order-2.ensures ∙ c.in-Less-Less.is-1)

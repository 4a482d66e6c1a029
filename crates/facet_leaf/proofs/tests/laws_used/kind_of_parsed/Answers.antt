use Rattle.std.proofs.Common.{sym, ◌∙◌}
use Rattle.facet_leaf.proofs.ParsedKinds.{kind_of_ok}
use Rattle.facet_leaf.proofs.tests.laws_used.kind_of_parsed.Goals as goal

pub returns-in-Ok : goal.returns-in-Ok
returns-in-Ok g c =
    c.kind.ensures ∙ kind_of_ok g.L.Leaf.model.kind c.args.kind _ _ c.in-Ok.leaf (g.met.L.Leaf.laws.parsed_kind c.args.kind c.args.text.now) (sym c.in-Ok.is ∙ c.in_ok-leaf.ensures)

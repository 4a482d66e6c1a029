use Rattle.facet_drop.proofs.LeavesTexts.{on_each_ok, separated_utf8}
use Rattle.facet_drop.proofs.listing.write_leaf.Goals as goal

pub returns-clause-utf8 : goal.returns-clause-utf8
returns-clause-utf8 g c = on_each_ok c.write_debug.result (separated_utf8 (g.L.Leaf.model.debug c.args.leaf.now) c.write_debug.ensures.utf8)

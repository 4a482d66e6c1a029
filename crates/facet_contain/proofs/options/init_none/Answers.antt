use Rattle.facet_contain.proofs.MadeContainers.{none_below, none_changes, none_empty, none_reads}
use Rattle.facet_contain.proofs.options.init_none.Goals as goal

pub put_tag-requires-clause-below : goal.put_tag-requires-clause-below
put_tag-requires-clause-below g c = none_below g.L.Leaf.model c.args.shapes.now.sealed c.sealed-sealed.ensures.registry.well_formed c.args.s.0 c.requires.sealed c.requires.kind c.requires.vacant

pub put_tag-requires-clause-empty : goal.put_tag-requires-clause-empty
put_tag-requires-clause-empty g c = none_empty g.L.Leaf.model c.args.shapes.now.sealed c.sealed-sealed.ensures.registry.well_formed c.args.s.0 c.requires.sealed c.requires.kind c.requires.vacant

pub returns-clause-made : goal.returns-clause-made
returns-clause-made g c = rw c.put_tag.ensures.block (none_reads g.L.Leaf.model c.args.shapes.now.sealed c.sealed-sealed.ensures.registry.well_formed c.args.s.0 c.requires.sealed c.requires.kind c.requires.vacant)

pub returns-clause-elsewhere : goal.returns-clause-elsewhere
returns-clause-elsewhere g c = rw c.put_tag.ensures.block (none_changes g.L.Leaf.model c.args.shapes.now.sealed c.sealed-sealed.ensures.registry.well_formed c.args.s.0 c.requires.sealed c.requires.kind c.requires.vacant)

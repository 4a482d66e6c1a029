use Rattle.facet_lists.proofs.ChangedLists.{made_of, place_below, place_empty}
use Rattle.facet_lists.proofs.lists.from_raw_parts.Goals as goal

pub put_sequence-requires-clause-below : goal.put_sequence-requires-clause-below
put_sequence-requires-clause-below g c = place_below g.L.Leaf.model c.args.shapes.now.sealed c.sealed-sealed.ensures.registry.well_formed c.requires.sealed c.requires.kind c.requires.vacant

pub put_sequence-requires-clause-empty : goal.put_sequence-requires-clause-empty
put_sequence-requires-clause-empty g c = place_empty g.L.Leaf.model c.args.shapes.now.sealed c.sealed-sealed.ensures.registry.well_formed c.requires.sealed c.requires.kind c.requires.vacant

pub returns-clause-made : goal.returns-clause-made
returns-clause-made g c = made_of g.L.Leaf.model c.args.shapes.now.sealed c.sealed-sealed.ensures.registry.well_formed c.requires.sealed c.requires.kind c.requires.vacant c.requires.first _ _ c.first_filled.ensures c.put_sequence.ensures.block

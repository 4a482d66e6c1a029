use Rattle.facet_init.proofs.Tags.{fields_filled, fields_vacant, made_at_once, tag_below, tag_changes, tag_empty}
use Rattle.facet_init.proofs.enums.init_variant.Goals as goal

pub put_tag-requires-clause-below : goal.put_tag-requires-clause-below
put_tag-requires-clause-below g c = tag_below g.L.Leaf.model c.args.shapes.now.sealed c.sealed-sealed.ensures.registry.well_formed c.args.s.0 c.requires.sealed c.requires.kind _ _ c.requires.vacant

pub put_tag-requires-clause-empty : goal.put_tag-requires-clause-empty
put_tag-requires-clause-empty g c = tag_empty g.L.Leaf.model c.args.shapes.now.sealed c.sealed-sealed.ensures.registry.well_formed c.args.s.0 c.requires.sealed c.requires.kind _ _ c.requires.vacant

pub returns-clause-elsewhere : goal.returns-clause-elsewhere
returns-clause-elsewhere g c = rw c.put_tag.ensures.block (tag_changes g.L.Leaf.model c.args.shapes.now.sealed c.sealed-sealed.ensures.registry.well_formed c.args.s.0 c.requires.sealed c.requires.kind _ _ c.requires.vacant c.args.variant)

pub returns-clause-fields : goal.returns-clause-fields
returns-clause-fields g c = rw c.put_tag.ensures.block (fields_vacant g.L.Leaf.model c.args.shapes.now.sealed c.sealed-sealed.ensures.registry.well_formed c.args.s.0 c.requires.sealed c.requires.kind _ _ c.requires.vacant c.args.variant)

pub returns-clause-filled : goal.returns-clause-filled
returns-clause-filled g c = rw c.put_tag.ensures.block (fields_filled g.L.Leaf.model c.args.shapes.now.sealed c.sealed-sealed.ensures.registry.well_formed c.args.s.0 c.requires.sealed c.requires.kind _ _ c.requires.vacant c.args.variant)

pub returns-clause-made : goal.returns-clause-made
returns-clause-made g c = rw c.put_tag.ensures.block (made_at_once g.L.Leaf.model c.args.shapes.now.sealed c.sealed-sealed.ensures.registry.well_formed c.args.s.0 c.requires.sealed c.requires.kind _ _ c.requires.vacant c.args.variant)

use Rattle.facet_init.proofs.MadeSequences.{box_cleared, box_is_put, box_reads, boxed, place_below, place_empty, put_changes, source_inside}
use Rattle.facet_init.proofs.boxes.box_new_into.Goals as goal

pub with_one_block-requires : goal.with_one_block-requires
with_one_block-requires g c = record { inside = source_inside g.L.Leaf.model c.args.shapes.now.sealed c.sealed-sealed.ensures.registry.well_formed c.args.s.0 c.requires.sealed _ _ c.requires.vacant c.requires.kind c.args.value.block.now c.args.value.offset c.requires.readable c.block_size.result c.block_size.ensures }

pub put_sequence-requires-clause-below : goal.put_sequence-requires-clause-below
put_sequence-requires-clause-below g c = place_below g.L.Leaf.model c.args.shapes.now.sealed c.sealed-sealed.ensures.registry.well_formed c.args.s.0 c.requires.sealed _ _ c.requires.vacant (boxed g.L.Leaf.model c.args.shapes.now.sealed c.sealed-sealed.ensures.registry.well_formed c.args.s.0 c.requires.kind).form (boxed g.L.Leaf.model c.args.shapes.now.sealed c.sealed-sealed.ensures.registry.well_formed c.args.s.0 c.requires.kind).ids (boxed g.L.Leaf.model c.args.shapes.now.sealed c.sealed-sealed.ensures.registry.well_formed c.args.s.0 c.requires.kind).of

pub put_sequence-requires-clause-empty : goal.put_sequence-requires-clause-empty
put_sequence-requires-clause-empty g c = place_empty g.L.Leaf.model c.args.shapes.now.sealed c.sealed-sealed.ensures.registry.well_formed c.args.s.0 c.requires.sealed _ _ c.requires.vacant (boxed g.L.Leaf.model c.args.shapes.now.sealed c.sealed-sealed.ensures.registry.well_formed c.args.s.0 c.requires.kind).form (boxed g.L.Leaf.model c.args.shapes.now.sealed c.sealed-sealed.ensures.registry.well_formed c.args.s.0 c.requires.kind).ids (boxed g.L.Leaf.model c.args.shapes.now.sealed c.sealed-sealed.ensures.registry.well_formed c.args.s.0 c.requires.kind).of

pub returns-clause-made : goal.returns-clause-made
returns-clause-made g c = rw c.put_sequence.ensures.block (box_reads g.L.Leaf.model c.args.shapes.now.sealed c.sealed-sealed.ensures.registry.well_formed c.args.s.0 c.requires.sealed _ _ c.requires.vacant c.requires.kind c.args.value.block.now c.args.value.offset c.requires.readable c.block_size.result c.block_size.ensures c.in_ok-blocks.blocks c.in_ok-blocks.ensures.filled)

pub returns-clause-elsewhere : goal.returns-clause-elsewhere
returns-clause-elsewhere g c = rw c.put_sequence.ensures.block (put_changes g.L.Leaf.model c.args.shapes.now.sealed c.sealed-sealed.ensures.registry.well_formed c.args.s.0 c.requires.sealed _ _ c.requires.vacant (boxed g.L.Leaf.model c.args.shapes.now.sealed c.sealed-sealed.ensures.registry.well_formed c.args.s.0 c.requires.kind).form (boxed g.L.Leaf.model c.args.shapes.now.sealed c.sealed-sealed.ensures.registry.well_formed c.args.s.0 c.requires.kind).ids (boxed g.L.Leaf.model c.args.shapes.now.sealed c.sealed-sealed.ensures.registry.well_formed c.args.s.0 c.requires.kind).of c.in_ok-blocks.blocks)

pub returns-clause-moved : goal.returns-clause-moved
returns-clause-moved g c = box_cleared g.L.Leaf.model c.args.shapes.now.sealed c.sealed-sealed.ensures.registry.well_formed c.args.s.0 c.requires.sealed _ _ c.requires.vacant c.requires.kind c.args.value.block.now c.args.value.offset c.requires.readable c.block_size.result c.block_size.ensures _ c.in_ok-blocks.ensures.moved

pub returns-clause-blocks : goal.returns-clause-blocks
returns-clause-blocks g c = box_is_put g.L.Leaf.model c.args.shapes.now.sealed c.sealed-sealed.ensures.registry.well_formed c.args.s.0 c.requires.sealed _ _ c.requires.vacant c.requires.kind c.args.value.block.now c.args.value.offset c.requires.readable c.block_size.result c.block_size.ensures c.in_ok-blocks.blocks c.in_ok-blocks.ensures.filled _ c.put_sequence.ensures.block

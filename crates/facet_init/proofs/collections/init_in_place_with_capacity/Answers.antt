use Rattle.facet_init.proofs.MadeSequences.{growing, list_reads, map_reads, place_below, place_empty, put_changes, room_there, set_reads}
use Rattle.facet_init.proofs.collections.init_in_place_with_capacity.Goals as goal

pub put_sequence-requires-clause-below : goal.put_sequence-requires-clause-below
put_sequence-requires-clause-below g c = place_below g.L.Leaf.model c.args.shapes.now.sealed c.sealed-sealed.ensures.registry.well_formed c.args.s.0 c.requires.sealed _ _ c.requires.vacant (growing c.args.shapes.now.sealed c.args.s.0 c.requires.kind).form (growing c.args.shapes.now.sealed c.args.s.0 c.requires.kind).ids (growing c.args.shapes.now.sealed c.args.s.0 c.requires.kind).of

pub put_sequence-requires-clause-empty : goal.put_sequence-requires-clause-empty
put_sequence-requires-clause-empty g c = place_empty g.L.Leaf.model c.args.shapes.now.sealed c.sealed-sealed.ensures.registry.well_formed c.args.s.0 c.requires.sealed _ _ c.requires.vacant (growing c.args.shapes.now.sealed c.args.s.0 c.requires.kind).form (growing c.args.shapes.now.sealed c.args.s.0 c.requires.kind).ids (growing c.args.shapes.now.sealed c.args.s.0 c.requires.kind).of

pub returns-clause-list : goal.returns-clause-list
returns-clause-list g c = rw c.put_sequence.ensures.block (list_reads g.L.Leaf.model c.args.shapes.now.sealed c.sealed-sealed.ensures.registry.well_formed c.args.s.0 c.requires.sealed _ _ c.requires.vacant c.in_ok-blocks.blocks c.block_size.result c.args.capacity c.block_size.ensures c.in_ok-blocks.ensures)

pub returns-clause-map : goal.returns-clause-map
returns-clause-map g c = rw c.put_sequence.ensures.block (map_reads g.L.Leaf.model c.args.shapes.now.sealed c.sealed-sealed.ensures.registry.well_formed c.args.s.0 c.requires.sealed _ _ c.requires.vacant c.in_ok-blocks.blocks c.block_size.result c.args.capacity c.block_size.ensures c.in_ok-blocks.ensures)

pub returns-clause-set : goal.returns-clause-set
returns-clause-set g c = rw c.put_sequence.ensures.block (set_reads g.L.Leaf.model c.args.shapes.now.sealed c.sealed-sealed.ensures.registry.well_formed c.args.s.0 c.requires.sealed _ _ c.requires.vacant c.in_ok-blocks.blocks c.block_size.result c.args.capacity c.block_size.ensures c.in_ok-blocks.ensures)

pub returns-clause-room : goal.returns-clause-room
returns-clause-room g c = room_there g.L.Leaf.model c.args.shapes.now.sealed c.sealed-sealed.ensures.registry.well_formed c.args.s.0 c.requires.sealed _ _ c.requires.vacant (growing c.args.shapes.now.sealed c.args.s.0 c.requires.kind).form (growing c.args.shapes.now.sealed c.args.s.0 c.requires.kind).ids (growing c.args.shapes.now.sealed c.args.s.0 c.requires.kind).of c.in_ok-blocks.blocks c.block_size.result c.args.capacity c.in_ok-blocks.ensures _ c.put_sequence.ensures.block

pub returns-clause-elsewhere : goal.returns-clause-elsewhere
returns-clause-elsewhere g c = rw c.put_sequence.ensures.block (put_changes g.L.Leaf.model c.args.shapes.now.sealed c.sealed-sealed.ensures.registry.well_formed c.args.s.0 c.requires.sealed _ _ c.requires.vacant (growing c.args.shapes.now.sealed c.args.s.0 c.requires.kind).form (growing c.args.shapes.now.sealed c.args.s.0 c.requires.kind).ids (growing c.args.shapes.now.sealed c.args.s.0 c.requires.kind).of c.in_ok-blocks.blocks)

use Rattle.facet_contain.proofs.MadeContainers.{err_moves}
use Rattle.facet_contain.proofs.results.init_err.Goals as goal

pub put_tag_and_move-requires-clause-below : goal.put_tag_and_move-requires-clause-below
put_tag_and_move-requires-clause-below g c = (err_moves c.sealed-sealed.ensures.registry.well_formed c.requires.sealed c.requires.vacant c.result_parts-parts.result.0 c.result_parts-parts.result.1 c.result_parts-parts.ensures c.part_offset.ensures c.size_of-size.ensures.sealed c.requires.readable).below

pub put_tag_and_move-requires-clause-empty : goal.put_tag_and_move-requires-clause-empty
put_tag_and_move-requires-clause-empty g c = (err_moves c.sealed-sealed.ensures.registry.well_formed c.requires.sealed c.requires.vacant c.result_parts-parts.result.0 c.result_parts-parts.result.1 c.result_parts-parts.ensures c.part_offset.ensures c.size_of-size.ensures.sealed c.requires.readable).empty

pub put_tag_and_move-requires-clause-vacant : goal.put_tag_and_move-requires-clause-vacant
put_tag_and_move-requires-clause-vacant g c = (err_moves c.sealed-sealed.ensures.registry.well_formed c.requires.sealed c.requires.vacant c.result_parts-parts.result.0 c.result_parts-parts.result.1 c.result_parts-parts.ensures c.part_offset.ensures c.size_of-size.ensures.sealed c.requires.readable).vacant

pub put_tag_and_move-requires-clause-source_inside : goal.put_tag_and_move-requires-clause-source_inside
put_tag_and_move-requires-clause-source_inside g c = (err_moves c.sealed-sealed.ensures.registry.well_formed c.requires.sealed c.requires.vacant c.result_parts-parts.result.0 c.result_parts-parts.result.1 c.result_parts-parts.ensures c.part_offset.ensures c.size_of-size.ensures.sealed c.requires.readable).inside

pub returns-clause-made : goal.returns-clause-made
returns-clause-made g c = rw c.put_tag_and_move.ensures.block (err_moves c.sealed-sealed.ensures.registry.well_formed c.requires.sealed c.requires.vacant c.result_parts-parts.result.0 c.result_parts-parts.result.1 c.result_parts-parts.ensures c.part_offset.ensures c.size_of-size.ensures.sealed c.requires.readable).made

pub returns-clause-elsewhere : goal.returns-clause-elsewhere
returns-clause-elsewhere g c = rw c.put_tag_and_move.ensures.block (err_moves c.sealed-sealed.ensures.registry.well_formed c.requires.sealed c.requires.vacant c.result_parts-parts.result.0 c.result_parts-parts.result.1 c.result_parts-parts.ensures c.part_offset.ensures c.size_of-size.ensures.sealed c.requires.readable).changed

pub returns-clause-moved : goal.returns-clause-moved
returns-clause-moved g c = rw c.put_tag_and_move.ensures.source (err_moves c.sealed-sealed.ensures.registry.well_formed c.requires.sealed c.requires.vacant c.result_parts-parts.result.0 c.result_parts-parts.result.1 c.result_parts-parts.ensures c.part_offset.ensures c.size_of-size.ensures.sealed c.requires.readable).cleared

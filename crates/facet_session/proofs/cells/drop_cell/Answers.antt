use Rattle.std.proofs.Common.{◌++◌, ◌∙◌, ap, arith, length, subst}
use Rattle.facet_values.specs.Place.{place_in}
use Rattle.facet_values.specs.Reading.{Reads}
use Rattle.facet_session.proofs.StoredLeaves.{stored_read}
use Rattle.facet_session.proofs.cells.drop_cell.Goals as goal

pub call_drop_in_place-requires-clause-room : goal.call_drop_in_place-requires-clause-room
call_drop_in_place-requires-clause-room g c v reads =
    let here : Reads g.L.Leaf.model c.args.shapes.now.sealed (place_in c.args.cell.now.shape.0 c.args.cell.now.block 0) v =
    subst (λ b. Reads g.L.Leaf.model c.args.shapes.now.sealed (place_in c.args.cell.now.shape.0 b 0) v) (ap (λ r. r.now) c.new.ensures.same_block) (subst (λ at. Reads g.L.Leaf.model c.args.shapes.now.sealed (place_in c.args.cell.now.shape.0 c.new.result.block.now at) v) c.new.ensures.offset reads) in
    omega (arith, c.requires.room, ap length (stored_read g.L.Leaf.model c.args.shapes.now.sealed c.args.cell.now v c.requires.held here))

pub returns : goal.returns
returns g c =
    let m = g.L.Leaf.model in
    let sealed = c.args.shapes.now.sealed in
    let cell = c.args.cell.now in
    let is = c.requires.held.readable in
    let reads : Reads m sealed (place_in cell.shape.0 c.new.result.block.now c.new.result.offset) is.value = rw (c.new.ensures.same_block, c.new.ensures.offset) is.reads in
    let stored = stored_read m sealed cell is.value c.requires.held is.reads in
    record {
      leaves = c.call_drop_in_place.ensures.leaves is.value reads ∙ ap (λ xs. c.args.log.now.leaves ++ xs) stored;
      spare = omega (arith, c.call_drop_in_place.ensures.spare is.value reads, ap length stored);
    }

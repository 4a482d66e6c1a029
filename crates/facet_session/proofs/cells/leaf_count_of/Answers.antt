use Rattle.std.proofs.Common.{◌∙◌, ap, length, min}
use Rattle.facet_values.specs.Reading.{Reads}
use Rattle.facet_walk.specs.Look.{pointed}
use Rattle.facet_session.proofs.StoredLeaves.{stored_read}
use Rattle.facet_session.proofs.cells.leaf_count_of.Goals as goal

pub returns : goal.returns
returns g c =
    let m = g.L.Leaf.model in
    let sealed = c.args.shapes.now.sealed in
    let cell = c.args.cell.now in
    let is = c.requires.readable in
    let reads : Reads m sealed (pointed cell.shape c.new.result) is.value = rw (c.new.ensures.same_block, c.new.ensures.offset) is.reads in
    c.leaf_count.ensures is.value reads ∙ ap (λ xs. min (length xs) 18446744073709551615) (stored_read m sealed cell is.value c.requires is.reads)

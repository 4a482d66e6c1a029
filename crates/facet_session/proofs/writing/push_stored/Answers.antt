use Rattle.std.proofs.Common.{◌++◌, ◌∙◌, ap, subst}
use Rattle.std.specs.Str.{IsUtf8}
use Rattle.facet_drop.specs.LeavesText.{leaves_text}
use Rattle.facet_values.specs.Reading.{Reads}
use Rattle.facet_walk.specs.Look.{pointed}
use Rattle.facet_session.proofs.StoredLeaves.{stored_read}
use Rattle.facet_session.proofs.writing.push_stored.Goals as goal

pub returns-clause-written : goal.returns-clause-written
returns-clause-written g c =
    let m = g.L.Leaf.model in
    let is = c.requires.readable in
    let reads : Reads m c.args.shapes.now.sealed (pointed c.args.cell.now.shape c.new.result) is.value = rw (c.new.ensures.same_block, c.new.ensures.offset) is.reads in
    c.in_ok-write_leaves.ensures.written is.value reads ∙ ap (λ xs. c.args.bytes.now.items ++ leaves_text m xs) (stored_read m c.args.shapes.now.sealed c.args.cell.now is.value c.requires is.reads)

pub returns-clause-utf8 : goal.returns-clause-utf8
returns-clause-utf8 g c =
    let m = g.L.Leaf.model in
    let is = c.requires.readable in
    let reads : Reads m c.args.shapes.now.sealed (pointed c.args.cell.now.shape c.new.result) is.value = rw (c.new.ensures.same_block, c.new.ensures.offset) is.reads in
    subst (λ xs. IsUtf8 (leaves_text m xs)) (stored_read m c.args.shapes.now.sealed c.args.cell.now is.value c.requires is.reads) (c.in_ok-write_leaves.ensures.utf8 is.value reads)

use Rattle.std.proofs.Common.{◌∙◌, Some, sym, ap, subst, arith}
use Rattle.facet_block.specs.Block.{with_item}
use Rattle.facet_block.specs.declared.block.Item.{Sequence}
use Rattle.facet_trees.specs.Value.{node, none}
use Rattle.facet_trees.specs.declared.form.Form.TheVariants as form
use Rattle.facet_value_callers.proofs.EmptyLists.{empty_list_reads, sequence_inside}
use Rattle.facet_value_callers.proofs.lists.put_empty_list.Goals as goal
use Rattle.facet_values.proofs.LaidOut.{laid_out, size_there}
use Rattle.facet_values.specs.Place.{place_in}
use Rattle.facet_values.specs.Reading.{Reads}

pub put_sequence-requires-clause-below : goal.put_sequence-requires-clause-below
put_sequence-requires-clause-below g c =
    let shapes = c.args.shapes.now.sealed in
    let laid = laid_out g.L.Leaf.model shapes c.sealed-sealed.ensures.registry.well_formed c.args.id.0 c.requires.sealed in
    omega (arith, sequence_inside g.L.Leaf.model shapes c.args.id.0 c.args.element c.requires.list laid, c.requires.vacant.inside)

pub put_sequence-requires-clause-empty : goal.put_sequence-requires-clause-empty
put_sequence-requires-clause-empty g c =
    let shapes = c.args.shapes.now.sealed in
    let laid = laid_out g.L.Leaf.model shapes c.sealed-sealed.ensures.registry.well_formed c.args.id.0 c.requires.sealed in
    let some = sequence_inside g.L.Leaf.model shapes c.args.id.0 c.args.element c.requires.list laid in
    c.requires.vacant.empty c.args.at (omega arith, omega (arith, some))

pub returns : goal.returns
returns g c =
    let m = g.L.Leaf.model in
    let shapes = c.args.shapes.now.sealed in
    let laid = laid_out m shapes c.sealed-sealed.ensures.registry.well_formed c.args.id.0 c.requires.sealed in
    let some = sequence_inside m shapes c.args.id.0 c.args.element c.requires.list laid in
    let size = c.size_of.ensures.sealed c.requires.element ∙ sym (size_there shapes c.args.element) in
    let is = c.put_sequence.ensures ∙ ap (λ s. with_item c.args.block.now c.args.at (Some (Sequence s))) c.new-sequence.ensures in
    subst (λ b. Reads m shapes (place_in c.args.id.0 b c.args.at) (node form.List none)) (sym is)
    (empty_list_reads m shapes c.args.id.0 c.args.element c.requires.list c.args.block.now c.args.at c.size_of.result c.requires.vacant some size)

use Rattle.std.proofs.Common.{sym, subst, arith}
use Rattle.facet_trees.specs.Value.{node, none}
use Rattle.facet_trees.specs.declared.form.Form.TheVariants as form
use Rattle.facet_value_callers.proofs.LeafOptions.{absent_reads, tag_inside}
use Rattle.facet_value_callers.proofs.options.put_absent.Goals as goal
use Rattle.facet_values.proofs.LaidOut.{laid_out}
use Rattle.facet_values.specs.Place.{place_in}
use Rattle.facet_values.specs.Reading.{Reads}

pub put_tag-requires-clause-below : goal.put_tag-requires-clause-below
put_tag-requires-clause-below g c =
    let shapes = c.args.shapes.now.sealed in
    let laid = laid_out g.L.Leaf.model shapes c.sealed-sealed.ensures.registry.well_formed c.args.id.0 c.requires.sealed in
    omega (arith, tag_inside shapes c.args.id.0 c.args.part c.args.offset c.requires.option laid, c.requires.vacant.inside)

pub put_tag-requires-clause-empty : goal.put_tag-requires-clause-empty
put_tag-requires-clause-empty g c =
    let shapes = c.args.shapes.now.sealed in
    let laid = laid_out g.L.Leaf.model shapes c.sealed-sealed.ensures.registry.well_formed c.args.id.0 c.requires.sealed in
    let some = tag_inside shapes c.args.id.0 c.args.part c.args.offset c.requires.option laid in
    c.requires.vacant.empty c.args.at (omega arith, omega (arith, some))

pub returns : goal.returns
returns g c =
    let m = g.L.Leaf.model in
    let shapes = c.args.shapes.now.sealed in
    let laid = laid_out m shapes c.sealed-sealed.ensures.registry.well_formed c.args.id.0 c.requires.sealed in
    let some = tag_inside shapes c.args.id.0 c.args.part c.args.offset c.requires.option laid in
    subst (λ b. Reads m shapes (place_in c.args.id.0 b c.args.at) (node form.Absent none)) (sym c.put_tag.ensures)
    (absent_reads m shapes c.args.id.0 c.args.part c.args.offset c.requires.option c.args.block.now c.args.at c.requires.vacant some)

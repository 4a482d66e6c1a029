use Rattle.std.proofs.Common.{◌+◌, sym, subst, arith}
use Rattle.facet_trees.specs.Value.{leaf, more, node, none}
use Rattle.facet_trees.specs.declared.form.Form.TheVariants as form
use Rattle.facet_value_callers.proofs.LeafOptions.{leaf_some, part_behind, part_inside, part_known, present_reads}
use Rattle.facet_value_callers.proofs.options.put_present.Goals as goal
use Rattle.facet_values.proofs.LaidOut.{laid_out}
use Rattle.facet_values.specs.Place.{place_in}
use Rattle.facet_values.specs.Reading.{Reads}

pub put_tag_and_leaf-requires : goal.put_tag_and_leaf-requires
put_tag_and_leaf-requires g c =
    let m = g.L.Leaf.model in
    let shapes = c.args.shapes.now.sealed in
    let all_laid = laid_out m shapes c.sealed-sealed.ensures.registry.well_formed in
    let laid = all_laid c.args.id.0 c.requires.sealed in
    let known = part_known shapes c.args.id.0 c.args.part c.args.offset c.requires.option laid in
    let some = leaf_some m shapes all_laid c.args.part.0 c.args.held known c.requires.part in
    let behind = part_behind shapes c.args.id.0 c.args.part c.args.offset c.requires.option laid some in
    let inside = part_inside shapes c.args.id.0 c.args.part c.args.offset c.requires.option laid in
    record {
      behind = behind;
      below = omega (arith, some, inside, c.requires.vacant.inside);
      empty = c.requires.vacant.empty c.args.at (omega arith, omega (arith, some, inside));
      empty_next = c.requires.vacant.empty (c.args.at + c.args.offset) (omega arith, omega (arith, some, inside));
    }

pub returns : goal.returns
returns g c =
    let m = g.L.Leaf.model in
    let shapes = c.args.shapes.now.sealed in
    let all_laid = laid_out m shapes c.sealed-sealed.ensures.registry.well_formed in
    let laid = all_laid c.args.id.0 c.requires.sealed in
    let known = part_known shapes c.args.id.0 c.args.part c.args.offset c.requires.option laid in
    let some = leaf_some m shapes all_laid c.args.part.0 c.args.held known c.requires.part in
    let behind = part_behind shapes c.args.id.0 c.args.part c.args.offset c.requires.option laid some in
    let inside = part_inside shapes c.args.id.0 c.args.part c.args.offset c.requires.option laid in
    subst (λ b. Reads m shapes (place_in c.args.id.0 b c.args.at) (node form.Present (more (leaf c.args.held) none))) (sym c.put_tag_and_leaf.ensures)
    (present_reads m shapes c.args.id.0 c.args.part c.args.offset c.requires.option c.args.block.now c.args.at c.requires.vacant c.args.held c.requires.part some behind inside)

use Rattle.std.proofs.Common.{sym, ap, subst}
use Rattle.facet_block.specs.Block.{item_kind}
use Rattle.facet_block.specs.declared.block.Item.{Leaf}
use Rattle.facet_trees.specs.Value.{leaf, more, node, none}
use Rattle.facet_value_callers.proofs.ReplacedLeaves.{field_known, leaf_in_field, leaf_replaced}
use Rattle.facet_value_callers.proofs.structs.replace_leaf.Goals as goal
use Rattle.facet_values.proofs.LaidOut.{laid_out}
use Rattle.facet_values.proofs.ReplacedParts.{item_within}
use Rattle.facet_values.specs.Place.{place_in}
use Rattle.facet_values.specs.Reading.{Reads}
use Rattle.facet_values.specs.Replaced.{with_parts}

pub replace_further-requires-clause-below : goal.replace_further-requires-clause-below
replace_further-requires-clause-below g c =
    let p = place_in c.args.id.0 c.args.block.now c.args.at in
    let found = leaf_in_field g.L.Leaf.model c.args.shapes.now.sealed p c.args.index c.args.part c.args.offset c.requires.field c.args.held c.requires.part c.requires.readable.value c.requires.readable.reads in
    item_within c.args.block.now _ (Leaf found.1.leaf_there) found.1.item

pub replace_further-requires-clause-leaf : goal.replace_further-requires-clause-leaf
replace_further-requires-clause-leaf g c =
    let p = place_in c.args.id.0 c.args.block.now c.args.at in
    let found = leaf_in_field g.L.Leaf.model c.args.shapes.now.sealed p c.args.index c.args.part c.args.offset c.requires.field c.args.held c.requires.part c.requires.readable.value c.requires.readable.reads in
    ap item_kind found.1.item

pub returns : goal.returns
returns g c form parts reads =
    let m = g.L.Leaf.model in
    let shapes = c.args.shapes.now.sealed in
    let p = place_in c.args.id.0 c.args.block.now c.args.at in
    let all_laid = laid_out m shapes c.sealed-sealed.ensures.registry.well_formed in
    let known = field_known m shapes p c.args.index c.args.part c.args.offset c.requires.field c.args.held c.requires.part (all_laid c.args.id.0 c.requires.sealed) in
    subst (λ b. Reads m shapes (place_in c.args.id.0 b c.args.at) (node form (with_parts c.args.index (more (leaf c.args.held) none) parts))) (sym c.replace_further.ensures.puts)
    (leaf_replaced m shapes p c.args.index c.args.part c.args.offset c.requires.field c.args.held c.requires.part all_laid c.requires.sealed known form parts reads)

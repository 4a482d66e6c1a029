use Rattle.std.proofs.Common.{◌≡◌, ◌∙◌, sym, ap, refl, subst}
use Rattle.facet_block.specs.Block.{item_kind}
use Rattle.facet_block.specs.declared.block.Item.{Leaf}
use Rattle.facet_trees.specs.Value.{leaf, more, node, none}
use Rattle.facet_trees.specs.declared.form.Form.TheVariants as form
use Rattle.facet_value_callers.proofs.LeafOptions.{held_there}
use Rattle.facet_value_callers.proofs.options.take_present.Goals as goal
use Rattle.facet_values.proofs.ReplacedParts.{item_within}
use Rattle.facet_values.specs.Place.{place_in}
use Rattle.facet_values.specs.Reading.{Reads}

pub take_leaf-requires-clause-below : goal.take_leaf-requires-clause-below
take_leaf-requires-clause-below g c =
    let there = held_there g.L.Leaf.model c.args.shapes.now.sealed c.args.id.0 c.args.part c.args.offset c.requires.option (place_in c.args.id.0 c.args.block.now c.args.at) c.requires.holds.held refl c.requires.holds.reads in
    item_within c.args.block.now _ (Leaf c.requires.holds.held) there

pub take_leaf-requires-clause-leaf : goal.take_leaf-requires-clause-leaf
take_leaf-requires-clause-leaf g c =
    let there = held_there g.L.Leaf.model c.args.shapes.now.sealed c.args.id.0 c.args.part c.args.offset c.requires.option (place_in c.args.id.0 c.args.block.now c.args.at) c.requires.holds.held refl c.requires.holds.reads in
    ap item_kind there

pub returns-clause-value : goal.returns-clause-value
returns-clause-value g c =
    let m = g.L.Leaf.model in
    let shapes = c.args.shapes.now.sealed in
    let p = place_in c.args.id.0 c.args.block.now c.args.at in
    let there = held_there m shapes c.args.id.0 c.args.part c.args.offset c.requires.option p c.requires.holds.held refl c.requires.holds.reads in
    let both = sym there ∙ c.take_leaf.ensures.value in
    let same : c.requires.holds.held ≡ c.take_leaf.result = cc in
    subst (λ x. Reads m shapes p (node form.Present (more (leaf x) none))) same c.requires.holds.reads

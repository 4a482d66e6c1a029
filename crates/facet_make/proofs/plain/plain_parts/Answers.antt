use Rattle.facet_walk.specs.Look.{pointed}
use Rattle.facet_make.proofs.PlainPlaces.{no_leaf_seen, plain_parts_seen, some_value_seen}
use Rattle.facet_make.proofs.plain.plain_parts.Goals as goal

pub returns : goal.returns
returns g c =
    plain_parts_seen g.L.Leaf.model c.args.shapes.now.sealed (pointed c.args.id c.args.at) c.requires.plain _ _ (rw c.in-Some-Node.field-0-is at c.in-Some-Node.ensures)

pub unreachable-requires : goal.unreachable-requires
unreachable-requires g c =
    no_leaf_seen g.L.Leaf.model c.args.shapes.now.sealed (pointed c.args.id c.args.at) c.requires.plain _ (rw c.in-Some-Leaf.field-0-is at c.in-Some-Leaf.ensures)

pub unreachable-requires-in-None : goal.unreachable-requires-in-None
unreachable-requires-in-None g c = some_value_seen g.L.Leaf.model c.args.shapes.now.sealed (pointed c.args.id c.args.at) c.requires.plain c.in-None.ensures

use Rattle.std.proofs.Common.{sym, subst}
use Rattle.facet_readable.proofs.AloneByStructure.{beside_seen, empty_beside_none}
use Rattle.facet_readable.specs.Gaps.{AreKnownPlaces, parts_of_seen}
use Rattle.facet_walk.specs.Look.{place_of}
use Rattle.facet_readable.proofs.alone.is_empty_beside_parts.Goals as goal

pub is_empty_beside-requires-clause-parts : goal.is_empty_beside-requires-clause-parts
is_empty_beside-requires-clause-parts g c =
    let seen = rw c.in-Some-Node.field-0-is at c.in-Some-Node.ensures in
    subst (λ s. AreKnownPlaces c.args.shapes.now.sealed (parts_of_seen s)) (sym seen) c.requires.parts

pub returns-in-Some-Node : goal.returns-in-Some-Node
returns-in-Some-Node g c =
    let seen = rw c.in-Some-Node.field-0-is at c.in-Some-Node.ensures in
    beside_seen c.args.shapes.now.sealed (place_of c.args.place) c.args.end c.args.start c.is_empty_beside.result _ seen c.is_empty_beside.ensures

pub returns-in-Some-Leaf : goal.returns-in-Some-Leaf
returns-in-Some-Leaf g c =
    let seen = rw c.in-Some-Leaf.field-0-is at c.in-Some-Leaf.ensures in
    let p = place_of c.args.place in
    beside_seen c.args.shapes.now.sealed p c.args.end c.args.start c.is_empty_from.result _ seen
    (empty_beside_none c.args.shapes.now.sealed p c.args.end c.args.start c.is_empty_from.result c.is_empty_from.ensures)

pub returns-in-None : goal.returns-in-None
returns-in-None g c =
    let p = place_of c.args.place in
    beside_seen c.args.shapes.now.sealed p c.args.end c.args.start c.is_empty_from-in-None.result _ c.in-None.ensures
    (empty_beside_none c.args.shapes.now.sealed p c.args.end c.args.start c.is_empty_from-in-None.result c.is_empty_from-in-None.ensures)

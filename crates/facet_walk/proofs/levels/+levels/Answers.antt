use Rattle.std.proofs.Common.{◌+◌, ◌∙◌, ap, sym, arith}
use Rattle.facet_trees.specs.Value.{depth}
use Rattle.facet_values.specs.Reading.{value_at}
use Rattle.facet_walk.specs.Look.{places_of}
use Rattle.facet_walk.proofs.PartTotals.{depth_from, depth_step}
use Rattle.facet_walk.proofs.ReadableParts.{levels_positive, parts_seen, value_of_seen}
use Rattle.facet_walk.proofs.levels.+levels.Goals as goal

pub depth_at-greatest_depth_of-requires : goal.depth_at-greatest_depth_of-requires
depth_at-greatest_depth_of-requires g t c κs within =
    let seen = rw c.in-Some-Node.field-0-is at c.in-Some-Node.ensures in (
      omega (arith, c.decreases, levels_positive c.requires.readable),
      (within, (c.requires.well_formed, parts_seen c.requires.readable c.requires.well_formed c.requires.sealed seen)),
    )

pub depth_at-returns-in-Some-Leaf-clause-depth : goal.depth_at-returns-in-Some-Leaf-clause-depth
depth_at-returns-in-Some-Leaf-clause-depth g t c =
    let seen = rw c.in-Some-Leaf.field-0-is at c.in-Some-Leaf.ensures in
    sym (ap depth (value_of_seen c.requires.readable seen))

pub depth_at-returns-in-Some-Node-clause-depth : goal.depth_at-returns-in-Some-Node-clause-depth
depth_at-returns-in-Some-Node-clause-depth g t c =
    let seen = rw c.in-Some-Node.field-0-is at c.in-Some-Node.ensures in
    let all = ap depth (value_of_seen c.requires.readable seen) in
    omega (arith, all, c.greatest_depth_of.ensures.depth)

pub greatest_depth_of-loop-i-preserved : goal.greatest_depth_of-loop-i-preserved
greatest_depth_of-loop-i-preserved g t c =
    let value = value_at c.args.shapes.now.sealed c.args.levels in
    let places = places_of c.args.parts in
    record {
      depth = ap (depth_from value places (c.loop-i.i + 1)) c.max-greatest.ensures
          ∙ depth_step value places c.loop-i.i c.loop-i.greatest c.depth_at.result c.part.ensures c.depth_at.ensures.depth
          ∙ c.loop-i.invariant.depth;
      bound = omega (arith, c.max-greatest.ensures, c.loop-i.invariant.bound, c.depth_at.ensures.bound);
    }

use Rattle.std.proofs.Common.{◌+◌, ◌∙◌, length, min, ap, sym, arith}
use Rattle.facet_trees.specs.Value.{leaves}
use Rattle.facet_values.specs.Reading.{value_at}
use Rattle.facet_walk.specs.Look.{places_of}
use Rattle.facet_walk.proofs.PartTotals.{count_end, count_from, count_step}
use Rattle.facet_walk.proofs.ReadableParts.{levels_positive, parts_seen, value_of_seen}
use Rattle.facet_walk.proofs.leaf_counts.+leaves.Goals as goal

pub leaves_at-leaves_in-requires : goal.leaves_at-leaves_in-requires
leaves_at-leaves_in-requires g t c κs within =
    let seen = rw c.in-Some-Node.field-0-is at c.in-Some-Node.ensures in (
      omega (arith, c.decreases, levels_positive c.requires.readable),
      (within, (c.requires.well_formed, parts_seen c.requires.readable c.requires.well_formed c.requires.sealed seen)),
    )

pub leaves_at-returns-in-Some-Leaf : goal.leaves_at-returns-in-Some-Leaf
leaves_at-returns-in-Some-Leaf g t c =
    let seen = rw c.in-Some-Leaf.field-0-is at c.in-Some-Leaf.ensures in
    sym (ap (λ v. min (length (leaves v)) 18446744073709551615) (value_of_seen c.requires.readable seen))

pub leaves_at-returns-in-Some-Node : goal.leaves_at-returns-in-Some-Node
leaves_at-returns-in-Some-Node g t c =
    let seen = rw c.in-Some-Node.field-0-is at c.in-Some-Node.ensures in
    c.leaves_in.ensures ∙ sym (ap (λ v. min (length (leaves v)) 18446744073709551615) (value_of_seen c.requires.readable seen))

pub leaves_in-loop-i-preserved : goal.leaves_in-loop-i-preserved
leaves_in-loop-i-preserved g t c =
    let value = value_at c.args.shapes.now.sealed c.args.levels in
    let places = places_of c.args.parts in
    record {
      count = ap (count_from value places 18446744073709551615 (c.loop-i.i + 1)) c.saturating_add-total.ensures
          ∙ count_step value places 18446744073709551615 c.loop-i.i c.loop-i.total c.leaves_at.result c.part.ensures c.leaves_at.ensures
          ∙ c.loop-i.invariant.count;
      most = omega (arith, c.saturating_add-total.ensures);
    }

pub leaves_in-returns : goal.leaves_in-returns
leaves_in-returns g t c =
    let value = value_at c.args.shapes.now.sealed c.args.levels in
    let places = places_of c.args.parts in
    sym (count_end value places 18446744073709551615 c.loop-i.i c.loop-i.total (omega arith) c.loop-i.invariant.most) ∙ c.loop-i.invariant.count

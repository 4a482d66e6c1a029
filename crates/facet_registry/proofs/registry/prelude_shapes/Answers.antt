use Rattle.facet_registry.specs.Prelude.{prelude_kinds, scalar_shapes}
use Rattle.facet_registry.proofs.Preludes.{scalars_more, scalars_done}
use Rattle.facet_registry.proofs.registry.prelude_shapes.Goals as goal

pub loop-kind-preserved : goal.loop-kind-preserved
loop-kind-preserved g c =
    let m = g.L.Leaf.model in
    let l = c.loop-kind in
    let more = scalars_more m l.shapes c.add.new.shapes prelude_kinds l.kind-index _ (scalar_shapes m 0 prelude_kinds) c.loop-kind-test.true l.invariant.count l.invariant.rest c.in_ok-add.ensures in
    record { count = more.0; rest = more.1 }

pub returns : goal.returns
returns g c =
    let m = g.L.Leaf.model in
    let l = c.loop-kind in
    scalars_done m l.shapes prelude_kinds l.kind-index (scalar_shapes m 0 prelude_kinds) c.loop-kind-test.false l.invariant.rest

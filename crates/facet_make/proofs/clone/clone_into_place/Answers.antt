use Rattle.facet_walk.proofs.ReadableParts.{value_there}
use Rattle.facet_make.proofs.clone.clone_into_place.Goals as goal

pub returns-in-Ok-Some-clause-after : goal.returns-in-Ok-Some-clause-after
returns-in-Ok-Some-clause-after g c = λ v reads.
    let made = rw c.in-Ok-Some.field-0-is at c.in-Ok-Some.ensures in
    rw (value_there g.L.Leaf.model c.args.shapes.now.sealed c.requires.readable v reads) at made.one

pub returns-in-Ok-None-clause-after : goal.returns-in-Ok-None-clause-after
returns-in-Ok-None-clause-after g c = λ v reads.
    let stopped = rw c.in-Ok-None.field-0-is at c.in-Ok-None.ensures in
    rw (value_there g.L.Leaf.model c.args.shapes.now.sealed c.requires.readable v reads) at stopped.back

pub returns-in-Err-clause-after : goal.returns-in-Err-clause-after
returns-in-Err-clause-after g c = λ v reads. let stopped = c.in-Err.ensures in rw (value_there g.L.Leaf.model c.args.shapes.now.sealed c.requires.readable v reads) at stopped.back

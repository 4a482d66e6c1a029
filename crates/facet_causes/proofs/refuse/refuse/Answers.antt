use Rattle.std.proofs.Common.{length, subst}
use Rattle.facet_causes.specs.Causes.{Meets}
use Rattle.facet_causes.proofs.Ranks.{none_through}
use Rattle.facet_graph.specs.Least.{IsLeast}
use Rattle.facet_causes.proofs.refuse.refuse.Goals as goal

pub returns-in-None-clause-ok : goal.returns-in-None-clause-ok
returns-in-None-clause-ok g c =
    let model = g.L.Leaf.model in
    let shapes = c.args.shapes.now in
    none_through model shapes c.args.cause c.requires.none_before (subst (IsLeast (Meets model shapes c.args.cause) (length shapes)) c.in-None.is c.requires.least)

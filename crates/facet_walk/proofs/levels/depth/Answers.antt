use Rattle.std.proofs.Common.{◌∙◌, ap}
use Rattle.facet_trees.specs.Value.{depth}
use Rattle.facet_walk.proofs.ReadableParts.{value_there}
use Rattle.facet_walk.proofs.levels.depth.Goals as goal

pub returns : goal.returns
returns g c = λ v reads. c.depth_at.ensures.depth ∙ ap depth (value_there g.L.Leaf.model c.args.shapes.now.sealed c.requires.readable v reads)

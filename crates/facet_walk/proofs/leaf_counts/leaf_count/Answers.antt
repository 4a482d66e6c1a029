use Rattle.std.proofs.Common.{◌∙◌, ap, length, min}
use Rattle.facet_trees.specs.Value.{leaves}
use Rattle.facet_walk.proofs.ReadableParts.{value_there}
use Rattle.facet_walk.proofs.leaf_counts.leaf_count.Goals as goal

pub returns : goal.returns
returns g c = λ v reads. c.leaves_at.ensures ∙ ap (λ w. min (length (leaves w)) 18446744073709551615) (value_there g.L.Leaf.model c.args.shapes.now.sealed c.requires.readable v reads)

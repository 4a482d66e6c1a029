use Rattle.std.proofs.Common.{◌+◌, ◌*◌}
use Rattle.facet_make.proofs.PartsMade.{PartsMade}
use Rattle.facet_make.specs.Default.{default_case}
use Rattle.facet_make.specs.Initial.{plain_body}
use Rattle.facet_trees.specs.Structure.{structure_at}
use Rattle.facet_make.proofs.default.+defaults.Given as goal

abbrev pub decreases-default_at : goal.decreases-default_at
decreases-default_at g l = 2 * l.levels

abbrev pub decreases-default_parts : goal.decreases-default_parts
decreases-default_parts g l = 2 * l.levels + 1

-- the parts before this one are made
abbrev pub invariant-default_parts-loop-i : goal.invariant-default_parts-loop-i
invariant-default_parts-loop-i g l =
    PartsMade g.L.Leaf.model l.shapes.sealed l.levels (λ part. default_case g.L.Leaf.model l.shapes.sealed l.levels part.shape.0) (plain_body (structure_at l.shapes.sealed l.id.0)) l.at l.held l.fn.block l.fn.log l.i l.together l.block l.log

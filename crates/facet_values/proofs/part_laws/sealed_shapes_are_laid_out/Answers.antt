use Rattle.facet_values.proofs.LaidOut.{laid_out}
use Rattle.facet_values.proofs.part_laws.sealed_shapes_are_laid_out.Goals as goal

pub returns : goal.returns
returns g c = λ shapes s well known. laid_out g.L.Leaf.model shapes well s known

use Rattle.facet_makers.proofs.Tuples.{layout_of_all, offsets_of_all, shapes_of_all}
use Rattle.facet_makers.proofs.laws.tuples_are_laid_out.Goals as goal

pub returns : goal.returns
returns c = record { offsets = offsets_of_all; layout = layout_of_all; shapes = shapes_of_all }

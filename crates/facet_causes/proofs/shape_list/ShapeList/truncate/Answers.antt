use Rattle.std.proofs.Common.{◌∙◌, sym, ap, map}
use Rattle.std.proofs.lemmas.List.{take-map}
use Rattle.facet_shape.specs.WithoutSpare.{shape_without_spare}
use Rattle.facet_causes.proofs.shape_list.ShapeList.truncate.Goals as goal

pub returns : goal.returns
returns c = rw (← c.self.view_is) (ap (map shape_without_spare) c.truncate.ensures.items ∙ sym (take-map shape_without_spare c.args.n c.self.inside.shapes.items))

use Rattle.std.proofs.Common.{◌∙◌, ap}
use Rattle.facet_declare.specs.Options.{with_options}
use Rattle.facet_makers.specs.Types.{opaque as opaque_type}
use Rattle.facet_shape.specs.WithoutSpare.{shape_without_spare}
use Rattle.facet_shape.specs.declared.shape.Shape.{Shape}
use Rattle.facet_declare.proofs.described.opaque.Goals as goal

pub returns : goal.returns
unfolding with_options
returns c =
    ap shape_without_spare c.ty.ensures
    ∙ ap (λ (s : Shape). record s { ty = opaque_type }) c.in_ok-begin.ensures

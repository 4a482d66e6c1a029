use Rattle.std.proofs.Common.{List, ◌++◌, map, ap, ◌∙◌}
use Rattle.std.specs.Prelude.{codes}
use Rattle.facet_base.specs.declared.layout.Layout.{Layout}
use Rattle.facet_base.specs.declared.layout.ShapeLayout.TheVariants.{Sized}
use Rattle.facet_desc.specs.WithoutSpare.{field_without_spare, struct_without_spare}
use Rattle.facet_desc.specs.declared.field.Field.{Field}
use Rattle.facet_makers.specs.Generic.{built_in}
use Rattle.facet_makers.specs.Makers.{tuple_of}
use Rattle.facet_makers.specs.Types.{TupleParts, ellipsis, tuple_type}
use Rattle.facet_makers.proofs.Filled.{filled_name}
use Rattle.facet_makers.proofs.tuple.tuple_shape.Goals as goal
use Rattle.facet_outline.specs.Layout.{rounded}

pub returns : goal.returns
unfolding tuple_of struct_without_spare
returns g c =
    let made = λ (fields : List Field) (layout : Layout). built_in c.args.identifier.now (codes "#tuple#(" ++ ellipsis ++ codes ")") (tuple_type fields) (Sized layout) in
    let is =
    c.in_ok-shape.ensures
    ∙ ap (made (map field_without_spare c.tuple.inside.fields.items)) c.rounded.ensures
    ∙ ap (λ (tuple : TupleParts). made tuple.fields (rounded tuple.end tuple.align)) c.tuple.view_is in
    filled_name _ _ _ c.in_ok-shape.shape c.offering.result _ c.offering.ensures is

use Rattle.std.proofs.Common.{List, ap}
use Rattle.facet_base.specs.Many.{of_items}
use Rattle.facet_desc.specs.WithoutSpare.{struct_without_spare}
use Rattle.facet_desc.specs.declared.field.Field.{Field}
use Rattle.facet_declare.proofs.parts.declared_struct.Goals as goal

pub returns : goal.returns
unfolding struct_without_spare
returns c =
    ap (λ (fields : List Field). record { repr = c.args.repr; kind = c.args.kind; fields = of_items fields }) c.in_ok-declared_fields.ensures

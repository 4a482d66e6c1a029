use Rattle.std.proofs.Common.{◌∙◌, ap, sym}
use Rattle.std.specs.Option.{option_map_or}
use Rattle.facet_causes.specs.Reading.{element_of, kind_in}
use Rattle.facet_outline.proofs.SameItems.{kind_same}
use Rattle.facet_outline.specs.declared.value_kind.ValueKind.TheVariants as kind
use Rattle.facet_registry.proofs.reading.kind_at.Goals as goal

pub returns-in-Some : goal.returns-in-Some
returns-in-Some c =
    let shapes = c.args.shapes.now in
    let shape = c.in-Some.shape.now in
    c.kind_in.ensures
    ∙ sym (kind_same (element_of shapes shape.def) shape)
    ∙ ap (λ found. option_map_or (kind_in shapes) found kind.NoValue) c.in-Some.ensures

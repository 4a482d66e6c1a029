use Rattle.std.proofs.Common.{◌∙◌, ap, sym}
use Rattle.std.specs.Option.{option_map_or}
use Rattle.facet_outline.proofs.SameItems.{tag_bytes_same}
use Rattle.facet_outline.specs.Field.{tag_bytes}
use Rattle.facet_outline.specs.declared.value_kind.ValueKind.TheVariants as kind
use Rattle.facet_shape.specs.declared.shape.Shape.{Shape}
use Rattle.facet_registry.proofs.offsets.tag_width_at.Goals as goal

pub returns-in-Some : goal.returns-in-Some
returns-in-Some c = c.tag_bytes.ensures ∙ sym (tag_bytes_same kind.Enum c.in-Some.shape.now.ty) ∙ ap (λ found. option_map_or (λ (shape : Shape). tag_bytes kind.Enum shape.ty) found 0) c.in-Some.ensures

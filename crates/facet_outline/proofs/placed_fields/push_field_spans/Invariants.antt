use Rattle.std.proofs.Common.{◌≡◌, ◌++◌, map, take}
use Rattle.facet_outline.specs.Field.{span_of}
use Rattle.facet_outline.proofs.placed_fields.push_field_spans.Given as goal

abbrev pub invariant-loop-field : goal.invariant-loop-field
invariant-loop-field g l = l.to.items ≡ l.initial.to.items ++ map (span_of (g.S.LayoutLookup.layout_at l.layouts)) (take l.field-index l.fields)

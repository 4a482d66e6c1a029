use Rattle.std.proofs.Common.{◌≡◌, drop}
use Rattle.std.specs.List.{list_any}
use Rattle.facet_outline.specs.Field.{is_misaligned}
use Rattle.facet_outline.proofs.placed_fields.one_is_misaligned.Given as goal

abbrev pub invariant-loop-field : goal.invariant-loop-field
invariant-loop-field g l = list_any (is_misaligned (g.S.LayoutLookup.layout_at l.layouts)) (drop l.field-index l.fields) ≡ list_any (is_misaligned (g.S.LayoutLookup.layout_at l.layouts)) l.fields

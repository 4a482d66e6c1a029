use Rattle.std.proofs.Common.{◌≡◌, drop}
use Rattle.std.specs.List.{list_any}
use Rattle.facet_outline.specs.Field.{ends_behind}
use Rattle.facet_outline.proofs.placed_fields.one_ends_behind.Given as goal

abbrev pub invariant-loop-field : goal.invariant-loop-field
invariant-loop-field g l = list_any (ends_behind (g.S.LayoutLookup.layout_at l.layouts) l.size) (drop l.field-index l.fields) ≡ list_any (ends_behind (g.S.LayoutLookup.layout_at l.layouts) l.size) l.fields

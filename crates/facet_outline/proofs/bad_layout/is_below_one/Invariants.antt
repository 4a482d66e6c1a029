use Rattle.std.proofs.Common.{◌≡◌, drop}
use Rattle.std.specs.List.{list_any}
use Rattle.facet_outline.specs.BadLayout.{is_below}
use Rattle.facet_outline.proofs.bad_layout.is_below_one.Given as goal

abbrev pub invariant-loop-id : goal.invariant-loop-id
invariant-loop-id g l = list_any (is_below (g.S.LayoutLookup.layout_at l.layouts) l.align) (drop l.id-index l.ids) ≡ list_any (is_below (g.S.LayoutLookup.layout_at l.layouts) l.align) l.ids

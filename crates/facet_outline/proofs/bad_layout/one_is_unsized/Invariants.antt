use Rattle.std.proofs.Common.{◌≡◌, drop}
use Rattle.std.specs.List.{list_any}
use Rattle.facet_outline.specs.BadLayout.{is_unsized}
use Rattle.facet_outline.proofs.bad_layout.one_is_unsized.Given as goal

abbrev pub invariant-loop-id : goal.invariant-loop-id
invariant-loop-id g l = list_any (λ id. is_unsized (g.S.LayoutLookup.layout_at l.layouts id)) (drop l.id-index l.ids) ≡ list_any (λ id. is_unsized (g.S.LayoutLookup.layout_at l.layouts id)) l.ids

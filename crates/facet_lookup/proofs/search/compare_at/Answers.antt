use Rattle.std.proofs.Common.{refl, sym, subst, slice_get, ◌≡◌}
use Rattle.facet_base.proofs.Lists.{some_there}
use Rattle.facet_block.specs.Seq.{filled_of}
use Rattle.facet_lookup.specs.Find.{keys_at}
use Rattle.facet_trees.specs.Order.{by_total, ordered, ordering}
use Rattle.facet_values.specs.Place.{start_of}
use Rattle.facet_values.specs.Reading.{IsReadable, value_at}
use Rattle.facet_walk.specs.Look.{pointed}
use Rattle.facet_lookup.proofs.SearchedKeys.{absent, begins, key_at, never_unanswered, some_from}
use Rattle.facet_lookup.proofs.search.compare_at.Goals as goal

pub unreachable-requires : goal.unreachable-requires
unreachable-requires g c =
    let m = g.L.Leaf.model in
    let shapes = c.args.shapes.now.sealed in
    let (b, found, same) = begins c.args.s (slice_get (filled_of c.args.blocks.now) c.args.i) c.in-Some.at c.in-Some.ensures in
    let readable = subst (IsReadable m shapes) (sym same) (c.requires.keys.readable c.args.i b found) in
    never_unanswered m shapes g.met.L.Leaf.laws c.sealed-sealed.ensures.registry.well_formed c.args.s.0 c.requires.ordered (pointed c.args.s c.in-Some.at) (pointed c.args.s c.args.key) refl refl
    readable c.requires.key c.in-None-call_cmp.ensures.found

pub unreachable-requires-in-None : goal.unreachable-requires-in-None
unreachable-requires-in-None g c = some_there (filled_of c.args.blocks.now) c.args.i c.requires.below (absent (slice_get (filled_of c.args.blocks.now) c.args.i) c.in-None.ensures)

pub returns-clause-order : goal.returns-clause-order
returns-clause-order g c =
    let m = g.L.Leaf.model in
    let shapes = c.args.shapes.now.sealed in
    let s = c.args.s.0 in
    let blocks = filled_of c.args.blocks.now in
    let key = value_at shapes 100 (pointed c.args.s c.args.key) in
    let (b, found, same) = begins c.args.s (slice_get blocks c.args.i) c.in-Some.at c.in-Some.ensures in
    some_from (λ k. ordering m shapes by_total s k key ≡ ordered c.in-Some-call_cmp.order) (slice_get (keys_at shapes s blocks) c.args.i) (value_at shapes 100 (start_of s b)) (key_at m shapes s blocks c.args.i b found)
    (subst (λ p. ordering m shapes by_total s (value_at shapes 100 p) key ≡ ordered c.in-Some-call_cmp.order) same (sym c.in-Some-call_cmp.ensures.found))

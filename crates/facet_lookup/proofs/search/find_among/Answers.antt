use Rattle.std.proofs.Common.{◌≡◌, ◌+◌, ◌-◌, ap, arith, length, refl, slice_get, subst, sym, ◌∙◌}
use Rattle.facet_block.specs.Seq.{filled_of}
use Rattle.facet_lookup.specs.Find.{keys_at}
use Rattle.facet_trees.specs.Order.{by_total, ordered, ordering}
use Rattle.facet_values.specs.Reading.{value_at}
use Rattle.facet_walk.specs.Look.{pointed}
use Rattle.facet_lookup.proofs.KeySearch.{IsHalved, between_left, between_right, found_equal, found_none, halved_none, halved_step, rises}
use Rattle.facet_lookup.proofs.SearchedKeys.{between_first, searched, some_is}
use Rattle.facet_lookup.proofs.search.find_among.Goals as goal

pub loop-low-init : goal.loop-low-init
loop-low-init g c =
    let shapes = c.args.shapes.now.sealed in
    let blocks = filled_of c.args.blocks.now in
    let p = pointed c.args.s c.args.key in
    let h = searched g.L.Leaf.model shapes c.args.s.0 blocks p refl g.met.L.Leaf.laws c.sealed-sealed.ensures.registry.well_formed c.requires.keys c.requires.key in
    let whole : length blocks ≡ c.len-high.result - 0 = omega (arith, c.len-high.ensures) in (
      between_first g.L.Leaf.model shapes c.args.s.0 blocks c.len-high.result (value_at shapes 100 p) c.len-high.ensures h,
      subst (λ n. IsHalved (length blocks) c.args.steps.now c.args.steps.now n) whole (halved_none (length blocks) c.args.steps.now),
    )

pub loop-low-preserved-in-Less : goal.loop-low-preserved-in-Less
loop-low-preserved-in-Less g c =
    let shapes = c.args.shapes.now.sealed in
    let blocks = filled_of c.args.blocks.now in
    let p = pointed c.args.s c.args.key in
    let h = searched g.L.Leaf.model shapes c.args.s.0 blocks p refl g.met.L.Leaf.laws c.sealed-sealed.ensures.registry.well_formed c.requires.keys c.requires.key in
    let middle = c.middle_of-middle.result in
    let (v, at, order) = some_is (λ k. ordering g.L.Leaf.model shapes by_total c.args.s.0 k (value_at shapes 100 p) ≡ ordered c.compare_at.result) (slice_get (keys_at shapes c.args.s.0 blocks) middle) c.compare_at.ensures.order in (
      between_right h middle v c.loop-low.invariant.0 at c.middle_of-middle.ensures.below (order ∙ ap ordered c.in-Less.is),
      subst (λ n. IsHalved (length blocks) c.args.steps.now n (c.loop-low.high - (middle + 1))) (sym c.compare_at.ensures.steps)
          (halved_step (c.loop-low.high - (middle + 1)) c.loop-low.invariant.1 (omega (arith, c.loop-low-test.true)) c.middle_of-middle.ensures.behind),
    )

pub loop-low-preserved : goal.loop-low-preserved
loop-low-preserved g c =
    let shapes = c.args.shapes.now.sealed in
    let blocks = filled_of c.args.blocks.now in
    let p = pointed c.args.s c.args.key in
    let h = searched g.L.Leaf.model shapes c.args.s.0 blocks p refl g.met.L.Leaf.laws c.sealed-sealed.ensures.registry.well_formed c.requires.keys c.requires.key in
    let middle = c.middle_of-middle.result in
    let (v, at, order) = some_is (λ k. ordering g.L.Leaf.model shapes by_total c.args.s.0 k (value_at shapes 100 p) ≡ ordered c.compare_at.result) (slice_get (keys_at shapes c.args.s.0 blocks) middle) c.compare_at.ensures.order in (
      between_left h middle v c.loop-low.invariant.0 at c.middle_of-middle.ensures.from c.middle_of-middle.ensures.below (order ∙ ap ordered c.in-Greater.is),
      subst (λ n. IsHalved (length blocks) c.args.steps.now n (middle - c.loop-low.low)) (sym c.compare_at.ensures.steps)
          (halved_step (middle - c.loop-low.low) c.loop-low.invariant.1 (omega (arith, c.loop-low-test.true)) c.middle_of-middle.ensures.before),
    )

pub returns-in-Equal-clause-found : goal.returns-in-Equal-clause-found
returns-in-Equal-clause-found g c =
    let shapes = c.args.shapes.now.sealed in
    let blocks = filled_of c.args.blocks.now in
    let p = pointed c.args.s c.args.key in
    let h = searched g.L.Leaf.model shapes c.args.s.0 blocks p refl g.met.L.Leaf.laws c.sealed-sealed.ensures.registry.well_formed c.requires.keys c.requires.key in
    let middle = c.middle_of-middle.result in
    let (v, at, order) = some_is (λ k. ordering g.L.Leaf.model shapes by_total c.args.s.0 k (value_at shapes 100 p) ≡ ordered c.compare_at.result) (slice_get (keys_at shapes c.args.s.0 blocks) middle) c.compare_at.ensures.order in
    found_equal h middle v at (order ∙ ap ordered c.in-Equal.is)

pub returns-in-Equal-clause-steps : goal.returns-in-Equal-clause-steps
returns-in-Equal-clause-steps g c =
    let blocks = filled_of c.args.blocks.now in
    rises (subst (λ n. IsHalved (length blocks) c.args.steps.now n 0) (sym c.compare_at.ensures.steps) (halved_step 0 c.loop-low.invariant.1 (omega (arith, c.loop-low-test.true)) (omega arith))) refl

pub returns-clause-found : goal.returns-clause-found
returns-clause-found g c =
    let shapes = c.args.shapes.now.sealed in
    let blocks = filled_of c.args.blocks.now in
    let p = pointed c.args.s c.args.key in
    let h = searched g.L.Leaf.model shapes c.args.s.0 blocks p refl g.met.L.Leaf.laws c.sealed-sealed.ensures.registry.well_formed c.requires.keys c.requires.key in
    found_none h c.loop-low.invariant.0 c.loop-low-test.false

use Rattle.std.proofs.Common.{◌-◌, arith, refl}
use Rattle.facet_walk.specs.Look.{place_of, places_of}
use Rattle.facet_readable.specs.KeyPlaces.{HoldsLess, key_places}
use Rattle.facet_readable.proofs.OrderedKeys.{in_order, in_order_before, key_inside, key_known, key_readable, same_key}
use Rattle.facet_readable.proofs.Neighbours.{fewer, no_neighbours, one_more}
use Rattle.facet_readable.proofs.ascending.is_in_order.Goals as goal

pub loop-i-init : goal.loop-i-init
loop-i-init g c = no_neighbours (HoldsLess g.L.Leaf.model c.args.shapes.now.sealed) (key_places c.args.form (places_of c.args.parts))

pub key_at-requires : goal.key_at-requires
key_at-requires g c = key_inside g.L.Leaf.model c.args.shapes.now.sealed c.args.form (places_of c.args.parts) c.requires.readable (c.loop-i.i - 1) (omega (arith, c.key_count-i-end.ensures))

pub key_at-requires-in-loop-i : goal.key_at-requires-in-loop-i
key_at-requires-in-loop-i g c = key_inside g.L.Leaf.model c.args.shapes.now.sealed c.args.form (places_of c.args.parts) c.requires.readable c.loop-i.i (omega (arith, c.key_count-i-end.ensures))

pub is_less-requires-clause-sealed : goal.is_less-requires-clause-sealed
is_less-requires-clause-sealed g c =
    key_known g.L.Leaf.model c.args.shapes.now.sealed c.args.form (places_of c.args.parts) c.requires.readable (c.loop-i.i - 1) (place_of c.key_at.result) c.key_at.ensures

pub is_less-requires-clause-first : goal.is_less-requires-clause-first
is_less-requires-clause-first g c =
    key_readable g.L.Leaf.model c.args.shapes.now.sealed c.args.form (places_of c.args.parts) c.requires.readable (c.loop-i.i - 1) (place_of c.key_at.result) c.key_at.ensures

pub is_less-requires-clause-second : goal.is_less-requires-clause-second
is_less-requires-clause-second g c =
    key_readable g.L.Leaf.model c.args.shapes.now.sealed c.args.form (places_of c.args.parts) c.requires.readable c.loop-i.i (place_of c.key_at-in-loop-i.result) c.key_at-in-loop-i.ensures

pub is_less-requires-clause-same : goal.is_less-requires-clause-same
is_less-requires-clause-same g c =
    same_key g.L.Leaf.model c.args.shapes.now.sealed c.args.form (places_of c.args.parts) c.requires.readable c.requires.seen.place c.requires.seen.seen (c.loop-i.i - 1) c.loop-i.i
    (place_of c.key_at.result) (place_of c.key_at-in-loop-i.result) c.key_at.ensures c.key_at-in-loop-i.ensures

pub returns-then-not-is_less : goal.returns-then-not-is_less
returns-then-not-is_less g c = λ p seen. (
  λ e. absurd (cc),
  λ order. c.if-not-is_less.ensures.1
      (in_order_before g.L.Leaf.model c.args.shapes.now.sealed c.args.form (places_of c.args.parts) c.requires.readable p seen order (c.loop-i.i - 1) c.loop-i.i
      (place_of c.key_at.result) (place_of c.key_at-in-loop-i.result) (omega arith) c.key_at.ensures c.key_at-in-loop-i.ensures),
)

pub loop-i-preserved : goal.loop-i-preserved
loop-i-preserved g c =
    one_more (HoldsLess g.L.Leaf.model c.args.shapes.now.sealed) (key_places c.args.form (places_of c.args.parts)) c.loop-i.i (place_of c.key_at.result) (place_of c.key_at-in-loop-i.result) (omega arith) c.loop-i.invariant
    c.key_at.ensures c.key_at-in-loop-i.ensures (c.if-not-is_less.ensures.0 refl)

pub returns : goal.returns
returns g c = λ p seen. (
  λ e. in_order g.L.Leaf.model c.args.shapes.now.sealed c.args.form (places_of c.args.parts) c.requires.readable p seen g.met.L.Leaf.laws c.requires.well_formed
      (fewer (HoldsLess g.L.Leaf.model c.args.shapes.now.sealed) (key_places c.args.form (places_of c.args.parts)) _ c.loop-i.i (omega (arith, c.key_count-i-end.ensures)) c.loop-i.invariant),
  λ order. refl,
)

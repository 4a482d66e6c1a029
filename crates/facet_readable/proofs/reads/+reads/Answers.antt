use Rattle.std.proofs.Common.{arith, refl, sym}
use Rattle.facet_values.proofs.WholePlaces.{is_whole}
use Rattle.facet_walk.proofs.ReadableParts.{levels_positive, parts_seen, something_seen}
use Rattle.facet_walk.specs.Look.{place_of, places_of}
use Rattle.facet_readable.proofs.ReadableNodes.{are_readable_more, parts_in_order, parts_inside, parts_known, readable_leaf, readable_node}
use Rattle.facet_readable.proofs.reads.+reads.Goals as goal

pub reads_within-returns-then-levels-eq0 : goal.reads_within-returns-then-levels-eq0
reads_within-returns-then-levels-eq0 g t c = (λ e. absurd (cc), λ r. absurd (omega (arith, levels_positive r)))

pub reads_within-returns-then-not-is_whole : goal.reads_within-returns-then-not-is_whole
reads_within-returns-then-not-is_whole g t c = (
  λ e. absurd (cc),
  λ r. c.if-not-is_whole.ensures.1 (is_whole g.L.Leaf.model c.args.shapes.now.sealed (place_of c.args.place) r.value r.reads),
)

pub reads_within-returns-in-None : goal.reads_within-returns-in-None
reads_within-returns-in-None g t c = (λ e. absurd (cc), λ r. absurd (something_seen r (sym c.in-None.ensures)))

pub reads_within-returns-in-Some-Leaf : goal.reads_within-returns-in-Some-Leaf
reads_within-returns-in-Some-Leaf g t c =
    let seen = rw c.in-Some-Leaf.field-0-is at c.in-Some-Leaf.ensures in
    let whole = c.if-not-is_whole.ensures.0 refl in (
      λ e. readable_leaf g.L.Leaf.model c.args.shapes.now.sealed c.args.levels (place_of c.args.place) c.in-Some-Leaf.field-0-0.now (omega arith) whole seen,
      λ r. refl,
    )

pub reads_within-all_read-requires : goal.reads_within-all_read-requires
reads_within-all_read-requires g t c κs within =
    let shapes = c.args.shapes.now.sealed in
    let seen = rw c.in-Some-Node.field-0-is at c.in-Some-Node.ensures in
    let form = c.in-Some-Node.form in
    let parts = places_of c.in-Some-Node.parts in
    let whole = c.if-not-is_whole.ensures.0 refl in (
      omega (arith, c.decreases),
      (
        within,
        (
          c.requires.well_formed,
          (
            parts_known g.L.Leaf.model shapes c.requires.well_formed (place_of c.args.place) c.requires.sealed form parts seen,
            (
              parts_inside g.L.Leaf.model shapes c.requires.well_formed (place_of c.args.place) c.requires.sealed whole form parts seen,
              omega (arith, c.requires.most),
            ),
          ),
        ),
      ),
    )

pub reads_within-returns-then-not-all_read : goal.reads_within-returns-then-not-all_read
reads_within-returns-then-not-all_read g t c =
    let seen = rw c.in-Some-Node.field-0-is at c.in-Some-Node.ensures in (
      λ e. absurd (cc),
      λ r. c.if-not-all_read.ensures.1 (parts_seen r c.requires.well_formed c.requires.sealed seen),
    )

pub reads_within-is_in_order-requires-clause-seen : goal.reads_within-is_in_order-requires-clause-seen
reads_within-is_in_order-requires-clause-seen g t c = record { place = place_of c.args.place; seen = rw c.in-Some-Node.field-0-is at c.in-Some-Node.ensures }

pub reads_within-is_in_order-requires-clause-readable : goal.reads_within-is_in_order-requires-clause-readable
reads_within-is_in_order-requires-clause-readable g t c =
    are_readable_more g.L.Leaf.model c.args.shapes.now.sealed _ 100 (places_of c.in-Some-Node.parts) (omega (arith, c.requires.most)) (c.if-not-all_read.ensures.0 refl)

pub reads_within-returns-else-not-all_read : goal.reads_within-returns-else-not-all_read
reads_within-returns-else-not-all_read g t c =
    let shapes = c.args.shapes.now.sealed in
    let seen = rw c.in-Some-Node.field-0-is at c.in-Some-Node.ensures in
    let form = c.in-Some-Node.form in
    let parts = places_of c.in-Some-Node.parts in
    let whole = c.if-not-is_whole.ensures.0 refl in (
      λ e. readable_node g.L.Leaf.model shapes c.args.levels (place_of c.args.place) form parts (omega arith) c.requires.most whole seen (c.if-not-all_read.ensures.0 refl) ((c.is_in_order.ensures (place_of c.args.place) seen).0 e),
      λ r. (c.is_in_order.ensures (place_of c.args.place) seen).1 (parts_in_order g.L.Leaf.model shapes c.args.levels (place_of c.args.place) form parts c.requires.most seen r),
    )

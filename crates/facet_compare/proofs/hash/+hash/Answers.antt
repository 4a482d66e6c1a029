use Rattle.std.proofs.Common.{◌-◌, ◌∙◌, ap, sym, arith}
use Rattle.facet_leaf.specs.hashing.HashWrite.{fed_all}
use Rattle.facet_values.specs.Reading.{value_at}
use Rattle.facet_walk.proofs.ReadableParts.{levels_positive, parts_seen}
use Rattle.facet_walk.specs.Look.{place_of, places_of}
use Rattle.facet_compare.proofs.HashLaws.{unhashed}
use Rattle.facet_compare.proofs.PlacesHashed.{fed_then, leaf_can_hash, leaf_hashed, node_hashed, places_end, places_fed, places_go, places_stop}
use Rattle.facet_compare.specs.Hash.{HashWrites, form_writes}
use Rattle.facet_compare.specs.HashedPlaces.{hash_writes_of_places}
use Rattle.facet_compare.proofs.hash.+hash.Goals as goal

pub hash_at-returns-then-not-has_hash-clause-writes : goal.hash_at-returns-then-not-has_hash-clause-writes
hash_at-returns-then-not-has_hash-clause-writes g t c =
    let shapes = c.args.shapes.now.sealed in
    let none = unhashed g.L.Leaf.model shapes c.args.place.shape.0 (value_at shapes c.args.levels (place_of c.args.place)) (sym c.if-not-has_hash.ensures) in
    sym (ap (λ (w : HashWrites). fed_all g.H.HashSink.fed c.args.hasher.now w.writes) none)

pub hash_at-returns-then-not-has_hash-clause-finished : goal.hash_at-returns-then-not-has_hash-clause-finished
hash_at-returns-then-not-has_hash-clause-finished g t c =
    let shapes = c.args.shapes.now.sealed in
    let none = unhashed g.L.Leaf.model shapes c.args.place.shape.0 (value_at shapes c.args.levels (place_of c.args.place)) (sym c.if-not-has_hash.ensures) in
    sym (ap (λ (w : HashWrites). w.finished) none)

pub hash_at-hash_into-requires : goal.hash_at-hash_into-requires
hash_at-hash_into-requires g t c =
    let seen = c.in-Leaf.ensures in
    leaf_can_hash c.requires.well_formed c.requires.readable (c.if-not-has_hash.ensures) c.in-Leaf.leaf.now seen

pub hash_at-hash_parts-requires : goal.hash_at-hash_parts-requires
hash_at-hash_parts-requires g t c κs within =
    let seen = c.in-Node.ensures in (
      omega (arith, c.decreases, levels_positive c.requires.readable),
      (within.0, (within.1, (c.requires.well_formed, parts_seen c.requires.readable c.requires.well_formed c.requires.sealed seen))),
    )

pub hash_at-returns-in-Leaf-clause-writes : goal.hash_at-returns-in-Leaf-clause-writes
hash_at-returns-in-Leaf-clause-writes g t c =
    let seen = c.in-Leaf.ensures in
    let all = leaf_hashed c.requires.well_formed c.requires.readable (c.if-not-has_hash.ensures) c.in-Leaf.leaf.now seen in
    c.hash_into.ensures ∙ sym (ap (λ (w : HashWrites). fed_all g.H.HashSink.fed c.args.hasher.now w.writes) all)

pub hash_at-returns-in-Leaf-clause-finished : goal.hash_at-returns-in-Leaf-clause-finished
hash_at-returns-in-Leaf-clause-finished g t c =
    let seen = c.in-Leaf.ensures in
    let all = leaf_hashed c.requires.well_formed c.requires.readable (c.if-not-has_hash.ensures) c.in-Leaf.leaf.now seen in
    sym (ap (λ (w : HashWrites). w.finished) all)

pub hash_at-returns-in-Node-clause-writes : goal.hash_at-returns-in-Node-clause-writes
hash_at-returns-in-Node-clause-writes g t c =
    let shapes = c.args.shapes.now.sealed in
    let fed = g.H.HashSink.fed in
    let seen = c.in-Node.ensures in
    let places = places_of c.in-Node.parts in
    let parts = hash_writes_of_places g.L.Leaf.model shapes (c.args.levels - 1) places in
    let all = node_hashed c.requires.well_formed c.requires.readable (c.if-not-has_hash.ensures) c.in-Node.form places seen in
    c.hash_parts.ensures.writes
    ∙ ap (λ state. fed_all fed state parts.writes) c.write_form.ensures
    ∙ fed_then fed c.args.hasher.now (form_writes g.L.Leaf.model shapes c.args.place.shape.0 c.in-Node.form) parts
    ∙ sym (ap (λ (w : HashWrites). fed_all fed c.args.hasher.now w.writes) all)

pub hash_at-returns-in-Node-clause-finished : goal.hash_at-returns-in-Node-clause-finished
hash_at-returns-in-Node-clause-finished g t c =
    let seen = c.in-Node.ensures in
    let all = node_hashed c.requires.well_formed c.requires.readable (c.if-not-has_hash.ensures) c.in-Node.form (places_of c.in-Node.parts) seen in
    c.hash_parts.ensures.finished ∙ sym (ap (λ (w : HashWrites). w.finished) all)

pub hash_parts-returns-then-not-hash_at-clause-writes : goal.hash_parts-returns-then-not-hash_at-clause-writes
hash_parts-returns-then-not-hash_at-clause-writes g t c =
    let all = places_stop g.L.Leaf.model c.args.shapes.now.sealed c.args.levels (places_of c.args.parts) c.loop-i.i c.part.ensures c.if-not-hash_at.ensures.finished in
    c.if-not-hash_at.ensures.writes ∙ sym (ap (λ (w : HashWrites). fed_all g.H.HashSink.fed c.loop-i.hasher w.writes) all) ∙ c.loop-i.invariant.writes

pub hash_parts-returns-then-not-hash_at-clause-finished : goal.hash_parts-returns-then-not-hash_at-clause-finished
hash_parts-returns-then-not-hash_at-clause-finished g t c =
    let all = places_stop g.L.Leaf.model c.args.shapes.now.sealed c.args.levels (places_of c.args.parts) c.loop-i.i c.part.ensures c.if-not-hash_at.ensures.finished in
    c.if-not-hash_at.ensures.finished ∙ sym (ap (λ (w : HashWrites). w.finished) all) ∙ c.loop-i.invariant.finished

pub hash_parts-loop-i-preserved : goal.hash_parts-loop-i-preserved
hash_parts-loop-i-preserved g t c =
    let m = g.L.Leaf.model in
    let shapes = c.args.shapes.now.sealed in
    let places = places_of c.args.parts in
    let all = places_go m shapes c.args.levels places c.loop-i.i c.part.ensures c.if-not-hash_at.ensures.finished in
    record {
      finished = sym (ap (λ (w : HashWrites). w.finished) all) ∙ c.loop-i.invariant.finished;
      writes = places_fed m shapes c.args.levels g.H.HashSink.fed c.loop-i.hasher c.hash_at.new.hasher places c.loop-i.i c.part.ensures c.if-not-hash_at.ensures.finished c.if-not-hash_at.ensures.writes
          ∙ c.loop-i.invariant.writes;
    }

pub hash_parts-returns-clause-writes : goal.hash_parts-returns-clause-writes
hash_parts-returns-clause-writes g t c =
    let all = places_end g.L.Leaf.model c.args.shapes.now.sealed c.args.levels (places_of c.args.parts) c.loop-i.i (omega arith) in
    sym (ap (λ (w : HashWrites). fed_all g.H.HashSink.fed c.loop-i.hasher w.writes) all) ∙ c.loop-i.invariant.writes

pub hash_parts-returns-clause-finished : goal.hash_parts-returns-clause-finished
hash_parts-returns-clause-finished g t c =
    let all = places_end g.L.Leaf.model c.args.shapes.now.sealed c.args.levels (places_of c.args.parts) c.loop-i.i (omega arith) in
    sym (ap (λ (w : HashWrites). w.finished) all) ∙ c.loop-i.invariant.finished

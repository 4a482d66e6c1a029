use Rattle.std.proofs.Common.{◌≡◌, ◌+◌, ◌*◌, drop}
use Rattle.facet_leaf.specs.hashing.HashWrite.{fed_all}
use Rattle.facet_walk.specs.Look.{places_of}
use Rattle.facet_compare.specs.HashedPlaces.{hash_writes_of_places}
use Rattle.facet_compare.proofs.hash.+hash.Given as goal

abbrev pub decreases-hash_at : goal.decreases-hash_at
decreases-hash_at g l = 2 * l.levels

abbrev pub decreases-hash_parts : goal.decreases-hash_parts
decreases-hash_parts g l = 2 * l.levels + 1

-- the parts from this one on complete the writes
abbrev pub invariant-hash_parts-loop-i : goal.invariant-hash_parts-loop-i
invariant-hash_parts-loop-i g l =
    let rest = hash_writes_of_places g.L.Leaf.model l.shapes.sealed l.levels (drop l.i (places_of l.parts)) in
    let all = hash_writes_of_places g.L.Leaf.model l.shapes.sealed l.levels (places_of l.parts) in
    record {
      finished : rest.finished ≡ all.finished;
      writes : fed_all g.H.HashSink.fed l.hasher rest.writes ≡ fed_all g.H.HashSink.fed l.fn.hasher all.writes;
    }

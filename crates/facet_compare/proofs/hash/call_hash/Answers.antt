use Rattle.std.proofs.Common.{◌∙◌, ap}
use Rattle.facet_leaf.specs.hashing.HashWrite.{fed_all}
use Rattle.facet_walk.proofs.ReadableParts.{value_there}
use Rattle.facet_compare.specs.Hash.{hash_writes}
use Rattle.facet_compare.proofs.hash.call_hash.Goals as goal

pub returns-then-hash_at-clause-writes : goal.returns-then-hash_at-clause-writes
returns-then-hash_at-clause-writes g c = λ v reads.
    c.hash_at.ensures.writes
    ∙ ap (λ w. fed_all g.H.HashSink.fed c.args.hasher.now (hash_writes g.L.Leaf.model c.args.shapes.now.sealed c.args.s.0 w).writes) (value_there g.L.Leaf.model c.args.shapes.now.sealed c.requires.readable v reads)

pub returns-then-hash_at-clause-finished : goal.returns-then-hash_at-clause-finished
returns-then-hash_at-clause-finished g c = λ v reads.
    c.if-hash_at.ensures.finished
    ∙ ap (λ w. (hash_writes g.L.Leaf.model c.args.shapes.now.sealed c.args.s.0 w).finished) (value_there g.L.Leaf.model c.args.shapes.now.sealed c.requires.readable v reads)

pub returns-clause-writes : goal.returns-clause-writes
returns-clause-writes g c = λ v reads.
    c.hash_at.ensures.writes
    ∙ ap (λ w. fed_all g.H.HashSink.fed c.args.hasher.now (hash_writes g.L.Leaf.model c.args.shapes.now.sealed c.args.s.0 w).writes) (value_there g.L.Leaf.model c.args.shapes.now.sealed c.requires.readable v reads)

pub returns-clause-finished : goal.returns-clause-finished
returns-clause-finished g c = λ v reads.
    c.if-hash_at.ensures.finished
    ∙ ap (λ w. (hash_writes g.L.Leaf.model c.args.shapes.now.sealed c.args.s.0 w).finished) (value_there g.L.Leaf.model c.args.shapes.now.sealed c.requires.readable v reads)

use Rattle.std.proofs.Common.{subst, sym}
use Rattle.facet_block.specs.Seq.{filled_of}
use Rattle.facet_lookup.specs.Find.{AreKeys, RisesByHalving}
use Rattle.facet_walk.specs.Look.{pointed}
use Rattle.facet_lookup.proofs.KeyedPlaces.{are_keys, found_by, keys_counted, sequence_held}
use Rattle.facet_lookup.proofs.keys.find_key.Goals as goal

pub seq-requires : goal.seq-requires
seq-requires g c = sequence_held g.L.Leaf.model c.args.shapes.now.sealed (pointed c.args.s c.args.p) c.requires.readable.value c.requires.kind c.requires.readable.reads

pub find_among-requires-clause-keys : goal.find_among-requires-clause-keys
find_among-requires-clause-keys g c =
    subst (λ t. AreKeys g.L.Leaf.model c.args.shapes.now.sealed t (filled_of c.seq.result.now)) (sym c.key_shape.ensures.key)
    (are_keys g.L.Leaf.model c.args.shapes.now.sealed (pointed c.args.s c.args.p) c.requires.readable c.seq.result.now c.seq.ensures c.requires.kind)

pub returns-clause-found : goal.returns-clause-found
returns-clause-found g c = λ v k reads key_reads.
    found_by g.L.Leaf.model c.args.shapes.now.sealed (pointed c.args.s c.args.p) c.requires.readable c.seq.result.now c.seq.ensures c.requires.kind v reads c.key_shape.result.0 c.key_shape.ensures.key
    c.args.key.block.now c.args.key.offset c.requires.key k key_reads c.find_among.result c.find_among.ensures.found

pub returns-clause-steps : goal.returns-clause-steps
returns-clause-steps g c = λ v reads.
    subst (λ n. RisesByHalving n c.args.steps.now c.find_among.new.steps) (keys_counted g.L.Leaf.model c.args.shapes.now.sealed (pointed c.args.s c.args.p) c.requires.readable c.seq.result.now c.seq.ensures c.requires.kind v reads) c.find_among.ensures.steps

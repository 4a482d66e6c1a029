use Rattle.facet_contain.proofs.ContainerParts.{holds_pairs}
use Rattle.facet_iterate.proofs.ReadStarts.{is_map, pairs_lead, pairs_read, values_inside}
use Rattle.facet_iterate.proofs.pairs.map_iter.Goals as goal

pub seq-requires : goal.seq-requires
seq-requires g c = holds_pairs c.requires.readable c.requires.kind

pub pairs_of-requires : goal.pairs_of-requires
pairs_of-requires g c =
    values_inside c.requires.readable c.seq.result.now c.seq.ensures (is_map c.args.shapes.now.sealed c.args.s.0 c.requires.kind) c.pair_value_offset.result c.pair_value_offset.ensures

pub returns-clause-pairs : goal.returns-clause-pairs
returns-clause-pairs g c =
    pairs_read c.requires.readable c.seq.result.now c.seq.ensures (is_map c.args.shapes.now.sealed c.args.s.0 c.requires.kind) c.pair_value_offset.result c.pair_value_offset.ensures c.pairs_of.result c.pairs_of.ensures

pub returns-clause-readable : goal.returns-clause-readable
returns-clause-readable g c =
    pairs_lead c.requires.readable c.seq.result.now c.seq.ensures (is_map c.args.shapes.now.sealed c.args.s.0 c.requires.kind) c.pair_value_offset.result c.pair_value_offset.ensures c.pairs_of.result c.pairs_of.ensures
    c.sealed-sealed.ensures.registry.well_formed c.requires.sealed

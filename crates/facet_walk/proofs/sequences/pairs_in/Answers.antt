use Rattle.facet_block.specs.Seq.{filled_of}
use Rattle.facet_walk.proofs.SeenKinds.{no_pairs}
use Rattle.facet_walk.proofs.sequences.pairs_in.Goals as goal

pub returns-in_default : goal.returns-in_default
returns-in_default g c = no_pairs c.args.def.now c.args.offset (filled_of c.args.blocks.now) c.in_default.not-Map

use Rattle.facet_readable.proofs.EmptyRanges.{empty_from}
use Rattle.facet_readable.proofs.alone.is_empty_from.Goals as goal

pub returns : goal.returns
returns g c = empty_from c.args.at.block.now c.args.at.offset c.args.start c.args.end c.is_empty_in.result c.requires.some c.is_empty_in.ensures

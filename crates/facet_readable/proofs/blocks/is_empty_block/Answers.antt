use Rattle.std.proofs.Common.{◌∙◌, sym}
use Rattle.facet_readable.proofs.EmptyRanges.{empty_by}
use Rattle.facet_readable.proofs.blocks.is_empty_block.Goals as goal

pub returns : goal.returns
returns g c = empty_by c.args.size c.args.block.now c.is_empty_in.result (sym c.size.ensures ∙ c.if-size.false) c.is_empty_in.ensures

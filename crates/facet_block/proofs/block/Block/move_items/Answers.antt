use Rattle.std.proofs.Common.{◌+◌, ◌<◌, ◌∙◌, ap, arith}
use Rattle.facet_block.specs.Block.{size_of, with_item}
use Rattle.facet_block.proofs.MovedItems.{moved_out_more, moved_in_more}
use Rattle.facet_block.proofs.block.Block.move_items.Goals as goal

pub loop-i-preserved : goal.loop-i-preserved
loop-i-preserved g c =
    let done = c.loop-i.invariant in
    let i = c.loop-i.i in
    let here : c.args.from + i < size_of c.args.source.now = omega (arith, done.source_fits, c.loop-i-test.true) in
    let there : c.args.at + i < size_of c.args.self.now = omega (arith, done.fits, c.loop-i-test.true) in
    record {
      items = c.exchange.ensures.block
          ∙ (ap (λ item. with_item c.loop-i.self (c.args.at + i) item) c.exchange-item.ensures.value
          ∙ moved_in_more c.loop-i.self c.args.self.now c.args.source.now c.loop-i.source c.args.at c.args.from i done.items done.source there here);
      source = c.exchange-item.ensures.block ∙ moved_out_more c.loop-i.source c.args.source.now c.args.from i done.source here;
      fits = done.fits;
      source_fits = done.source_fits;
    }

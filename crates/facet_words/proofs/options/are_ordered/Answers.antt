use Rattle.std.proofs.Common.{◌≤◌, subst}
use Rattle.facet_words.proofs.OptionOrder.{from_none, order_kept}
use Rattle.facet_words.proofs.options.are_ordered.Goals as goal

pub loop-option-init : goal.loop-option-init
loop-option-init c = from_none c.args.options.now

pub loop-option-preserved : goal.loop-option-preserved
loop-option-preserved c =
    order_kept c.args.options.now c.loop-option.option-index c.loop-option.least c.next_rank-least.result c.option-item.result _ c.loop-option-test.true c.option-item.is c.next_rank-least.ensures
    (subst (λ r. c.loop-option.least ≤ r) c.rank.ensures c.if-rank-least.false) c.loop-option.invariant

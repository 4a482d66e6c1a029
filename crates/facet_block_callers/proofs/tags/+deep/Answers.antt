use Rattle.std.proofs.Common.{◌∙◌, sym, arith}
use Rattle.facet_block.proofs.Sequences.{changed_blocks_0, changed_blocks_more, block_there}
use Rattle.facet_block_callers.specs.Retagged.{retagged}
use Rattle.facet_block_callers.proofs.tags.+deep.Goals as goal
use Rattle.facet_block_callers.proofs.tags.+deep.Goals.{retag_deep_each-in-Some, retag_deep_each-in_default}

pub retag_deep_each-loop-i-init : goal.retag_deep_each-loop-i-init
retag_deep_each-loop-i-init g t c = sym (changed_blocks_0 (retagged c.args.levels c.args.tag) c.args.sequence.now)

pub retag_deep_each-loop-i-preserved : goal.retag_deep_each-loop-i-preserved
retag_deep_each-loop-i-preserved g t c =
    let change = retagged c.args.levels c.args.tag in
    elim c.match-get_mut.branch [
      | retag_deep_each-in-Some w ↦
          w.sequence-is
          ∙ changed_blocks_more change c.args.sequence.now c.loop-i.sequence c.loop-i.i w.in-Some.block.now _ c.loop-i.invariant (sym w.in-Some.ensures.value) w.retag_deep.ensures
      | retag_deep_each-in_default w ↦
          absurd (block_there change c.args.sequence.now c.loop-i.sequence c.loop-i.i c.loop-i.invariant (omega (arith, c.loop-i-test.true, c.len-i-end.ensures)) w.in_default.ensures.value)
    ]

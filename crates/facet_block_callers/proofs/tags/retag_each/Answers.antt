use Rattle.std.proofs.Common.{◌≡◌, ◌∙◌, sym, ap, arith, length}
use Rattle.facet_block.specs.Block.{item_kind_at}
use Rattle.facet_block.specs.Seq.{filled_of}
use Rattle.facet_block.specs.declared.block.ItemKind.TheVariants as kind
use Rattle.facet_base.proofs.Lists.{All_at}
use Rattle.facet_block.proofs.Sequences.{changed_blocks, changed_blocks_0, next_block, changed_blocks_more, block_there, changed_blocks_all}
use Rattle.facet_block_callers.specs.Retagged.{with_tag}
use Rattle.facet_block_callers.proofs.tags.retag_each.Goals as goal
use Rattle.facet_block_callers.proofs.tags.retag_each.Goals.{in-Some, in_default}

pub loop-i-init : goal.loop-i-init
loop-i-init g c = sym (changed_blocks_0 (with_tag c.args.at c.args.tag) c.args.sequence.now)

pub retag-requires : goal.retag-requires
retag-requires g c =
    let old = next_block (with_tag c.args.at c.args.tag) c.args.sequence.now c.loop-i.sequence c.loop-i.i c.loop-i.invariant in
    All_at (λ b. item_kind_at b c.args.at ≡ kind.Tag) (filled_of c.args.sequence.now) c.loop-i.i c.in-Some.block.now c.requires (sym old ∙ sym c.in-Some.ensures.value)

pub loop-i-preserved : goal.loop-i-preserved
loop-i-preserved g c =
    let change = with_tag c.args.at c.args.tag in
    elim c.match-get_mut.branch [
      | in-Some w ↦
          w.sequence-is
          ∙ changed_blocks_more change c.args.sequence.now c.loop-i.sequence c.loop-i.i w.in-Some.block.now _ c.loop-i.invariant (sym w.in-Some.ensures.value) w.retag.ensures
      | in_default w ↦
          absurd (block_there change c.args.sequence.now c.loop-i.sequence c.loop-i.i c.loop-i.invariant (omega (arith, c.loop-i-test.true, c.len-i-end.ensures)) w.in_default.ensures.value)
    ]

pub returns : goal.returns
returns g c =
    let change = with_tag c.args.at c.args.tag in
    let all : c.loop-i.i ≡ length (filled_of c.args.sequence.now) = omega (arith, c.len-i-end.ensures) in
    c.loop-i.invariant ∙ (ap (changed_blocks change c.args.sequence.now) all ∙ changed_blocks_all change c.args.sequence.now)

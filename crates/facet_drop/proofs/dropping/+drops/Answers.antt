use Rattle.std.proofs.Common.{◌≡◌, ◌+◌, ◌-◌, ◌++◌, AllPairs, drop, length, refl, sym, ap, ◌∙◌, subst, arith}
use Rattle.std.proofs.lemmas.List.{append-nil, take_all}
use Rattle.facet_trees.specs.Value.{leaves}
use Rattle.facet_base.proofs.Lists.{some_there}
use Rattle.facet_block.proofs.Ranges.{cleared_with_item}
use Rattle.facet_block.specs.Block.{item_kind}
use Rattle.facet_block.specs.Seq.{filled_of}
use Rattle.facet_block.specs.Span.{IsApart}
use Rattle.facet_drop.proofs.HeldValues.{blocks_apart, blocks_leaves, blocks_read, inline_leaves, inline_read, inline_told, leaf_cleared, leaf_there, no_value_there, of_inline, of_leaf, of_sequence, of_tagged, parts_and_tag, parts_are_all, sequence_cleared, sequence_there, tag_stays, tag_there, tagged_told}
use Rattle.facet_drop.proofs.PartsInOrder.{first_cleared, first_logged, first_start, key_has_room, key_reads, next_gone, next_has_room, next_inside, next_reads, pair_logged, value_has_room, value_reads}
use Rattle.facet_drop.proofs.PartsLeft.{as_many_filled, block_gone, block_has_room, block_reads, blocks_logged, next_block, others_stay}
use Rattle.facet_drop.proofs.Readables.{first_readable}
use Rattle.facet_drop.specs.InlineParts.{first_places, inline_places, leaves_at}
use Rattle.facet_drop.specs.Logged.{IsLogged}
use Rattle.facet_drop.specs.Makeup.{held_in}
use Rattle.facet_trees.specs.Structure.{structure_at}
use Rattle.facet_values.proofs.LaidOut.{laid_out}
use Rattle.facet_values.proofs.ReplacedParts.{item_within}
use Rattle.facet_values.proofs.WholePlaces.{lies_in_block}
use Rattle.facet_values.specs.Place.{block_places, place_in}
use Rattle.facet_values.specs.Reading.{part_spans, value_at}
use Rattle.facet_walk.proofs.ReadableParts.{levels_positive}
use Rattle.facet_walk.specs.Look.{AreReadable}
use Rattle.facet_drop.proofs.dropping.+drops.Goals as goal

pub drop_at-unreachable-requires : goal.drop_at-unreachable-requires
drop_at-unreachable-requires g t c =
    no_value_there g.L.Leaf.model c.args.shapes.now.sealed (place_in c.args.id.0 c.args.block.now c.args.at) c.args.levels c.requires.readable c.in-NoValues.ensures

pub drop_at-drop_leaf-requires-clause-leaf : goal.drop_at-drop_leaf-requires-clause-leaf
drop_at-drop_leaf-requires-clause-leaf g t c =
    let (x, item, all) = leaf_there g.L.Leaf.model c.args.shapes.now.sealed (place_in c.args.id.0 c.args.block.now c.args.at) c.args.levels c.requires.readable c.in-Leaf.ensures in
    ap item_kind item

pub drop_at-drop_leaf-requires-clause-room : goal.drop_at-drop_leaf-requires-clause-room
drop_at-drop_leaf-requires-clause-room g t c =
    let (x, item, all) = leaf_there g.L.Leaf.model c.args.shapes.now.sealed (place_in c.args.id.0 c.args.block.now c.args.at) c.args.levels c.requires.readable c.in-Leaf.ensures in
    omega (arith, c.requires.room, ap length all)

pub drop_at-returns-in-Leaf-clause-log : goal.drop_at-returns-in-Leaf-clause-log
drop_at-returns-in-Leaf-clause-log g t c =
    let (x, item, all) = leaf_there g.L.Leaf.model c.args.shapes.now.sealed (place_in c.args.id.0 c.args.block.now c.args.at) c.args.levels c.requires.readable c.in-Leaf.ensures in
    record {
      leaves = c.drop_leaf.ensures.logs x item ∙ ap (λ xs. c.args.log.now.leaves ++ xs) (sym all);
      spare = omega (arith, c.drop_leaf.ensures.spare, ap length all);
    }

pub drop_at-returns-in-Leaf-clause-cleared : goal.drop_at-returns-in-Leaf-clause-cleared
drop_at-returns-in-Leaf-clause-cleared g t c =
    let m = g.L.Leaf.model in
    let sealed = c.args.shapes.now.sealed in
    let p = place_in c.args.id.0 c.args.block.now c.args.at in
    let r = c.requires.readable in
    let (k, of) = of_leaf (structure_at sealed c.args.id.0) c.in-Leaf.ensures in
    let (x, item, all) = leaf_there m sealed p c.args.levels r c.in-Leaf.ensures in
    rw c.drop_leaf.ensures.empties
    (leaf_cleared m sealed p (laid_out m sealed c.requires.well_formed c.args.id.0 c.requires.sealed) r.value r.reads _ k of (cleared_with_item c.args.block.now c.args.at (item_within c.args.block.now c.args.at _ item)))

pub drop_at-drop_inline-requires : goal.drop_at-drop_inline-requires
drop_at-drop_inline-requires g t c κs within =
    let m = g.L.Leaf.model in
    let sealed = c.args.shapes.now.sealed in
    let p = place_in c.args.id.0 c.args.block.now c.args.at in
    let r = c.requires.readable in
    let inline = inline_told (structure_at sealed c.args.id.0) c.in-Inline.ensures in
    let all = inline_leaves m sealed p c.args.levels r c.requires.well_formed c.requires.sealed inline in (
      omega (arith, c.decreases, levels_positive r),
      (
        within,
        (
          c.requires.well_formed,
          (
            c.requires.sealed,
            (lies_in_block m sealed p r.value r.reads, (inline_read m sealed p c.args.levels r c.requires.well_formed c.requires.sealed inline, omega (arith, c.requires.room, ap length all))),
          ),
        ),
      ),
    )

pub drop_at-returns-in-Inline-clause-log : goal.drop_at-returns-in-Inline-clause-log
drop_at-returns-in-Inline-clause-log g t c =
    let m = g.L.Leaf.model in
    let sealed = c.args.shapes.now.sealed in
    let p = place_in c.args.id.0 c.args.block.now c.args.at in
    let inline = inline_told (structure_at sealed c.args.id.0) c.in-Inline.ensures in
    let all = inline_leaves m sealed p c.args.levels c.requires.readable c.requires.well_formed c.requires.sealed inline in
    subst (λ xs. IsLogged c.args.log.now c.drop_inline.new.log xs) (sym all) c.drop_inline.ensures.log

pub drop_at-returns-in-Inline-clause-cleared : goal.drop_at-returns-in-Inline-clause-cleared
drop_at-returns-in-Inline-clause-cleared g t c =
    let m = g.L.Leaf.model in
    let sealed = c.args.shapes.now.sealed in
    let p = place_in c.args.id.0 c.args.block.now c.args.at in
    let r = c.requires.readable in
    let (form, body, of) = of_inline (structure_at sealed c.args.id.0) c.in-Inline.ensures in
    parts_are_all m sealed p (laid_out m sealed c.requires.well_formed c.args.id.0 c.requires.sealed) r.value r.reads c.drop_inline.new.block form body of c.drop_inline.ensures.cleared

pub drop_at-drop_inline-requires-in-Tagged : goal.drop_at-drop_inline-requires-in-Tagged
drop_at-drop_inline-requires-in-Tagged g t c κs within =
    let m = g.L.Leaf.model in
    let sealed = c.args.shapes.now.sealed in
    let p = place_in c.args.id.0 c.args.block.now c.args.at in
    let r = c.requires.readable in
    let inline = tagged_told (structure_at sealed c.args.id.0) c.in-Tagged.ensures in
    let all = inline_leaves m sealed p c.args.levels r c.requires.well_formed c.requires.sealed inline in (
      omega (arith, c.decreases, levels_positive r),
      (
        within,
        (
          c.requires.well_formed,
          (
            c.requires.sealed,
            (lies_in_block m sealed p r.value r.reads, (inline_read m sealed p c.args.levels r c.requires.well_formed c.requires.sealed inline, omega (arith, c.requires.room, ap length all))),
          ),
        ),
      ),
    )

pub drop_at-drop_tag-requires : goal.drop_at-drop_tag-requires
drop_at-drop_tag-requires g t c =
    let m = g.L.Leaf.model in
    let sealed = c.args.shapes.now.sealed in
    let p = place_in c.args.id.0 c.args.block.now c.args.at in
    let laid = laid_out m sealed c.requires.well_formed c.args.id.0 c.requires.sealed in
    let (forms, bodies, of) = of_tagged (structure_at sealed c.args.id.0) c.in-Tagged.ensures in
    let (tag, item) = tag_there m sealed p c.args.levels c.requires.readable c.in-Tagged.ensures in
    ap item_kind (tag_stays sealed p c.drop_inline-in-Tagged.new.block laid forms bodies of c.drop_inline-in-Tagged.ensures.cleared ∙ item)

pub drop_at-returns-in-Tagged-clause-log : goal.drop_at-returns-in-Tagged-clause-log
drop_at-returns-in-Tagged-clause-log g t c =
    let m = g.L.Leaf.model in
    let sealed = c.args.shapes.now.sealed in
    let p = place_in c.args.id.0 c.args.block.now c.args.at in
    let inline = tagged_told (structure_at sealed c.args.id.0) c.in-Tagged.ensures in
    let all = inline_leaves m sealed p c.args.levels c.requires.readable c.requires.well_formed c.requires.sealed inline in
    subst (λ xs. IsLogged c.args.log.now c.drop_inline-in-Tagged.new.log xs) (sym all) c.drop_inline-in-Tagged.ensures.log

pub drop_at-returns-in-Tagged-clause-cleared : goal.drop_at-returns-in-Tagged-clause-cleared
drop_at-returns-in-Tagged-clause-cleared g t c =
    let m = g.L.Leaf.model in
    let sealed = c.args.shapes.now.sealed in
    let p = place_in c.args.id.0 c.args.block.now c.args.at in
    let r = c.requires.readable in
    let laid = laid_out m sealed c.requires.well_formed c.args.id.0 c.requires.sealed in
    let (forms, bodies, of) = of_tagged (structure_at sealed c.args.id.0) c.in-Tagged.ensures in
    let (tag, item) = tag_there m sealed p c.args.levels r c.in-Tagged.ensures in
    let between = c.drop_inline-in-Tagged.new.block in
    let stays = tag_stays sealed p between laid forms bodies of c.drop_inline-in-Tagged.ensures.cleared ∙ item in
    rw c.drop_tag.ensures
    (parts_and_tag m sealed p laid r.value r.reads _ forms bodies of between c.drop_inline-in-Tagged.ensures.cleared (cleared_with_item between c.args.at (item_within between c.args.at _ stays)))

pub drop_at-take_blocks-blocks-requires : goal.drop_at-take_blocks-blocks-requires
drop_at-take_blocks-blocks-requires g t c =
    let (s, item) = sequence_there g.L.Leaf.model c.args.shapes.now.sealed (place_in c.args.id.0 c.args.block.now c.args.at) c.args.levels c.requires.readable c.in-Sequence.ensures in
    ap item_kind item

pub drop_at-drop_blocks-requires : goal.drop_at-drop_blocks-requires
drop_at-drop_blocks-requires g t c κs within =
    let m = g.L.Leaf.model in
    let sealed = c.args.shapes.now.sealed in
    let p = place_in c.args.id.0 c.args.block.now c.args.at in
    let r = c.requires.readable in
    let s = c.take_blocks-blocks.result in
    let item = c.take_blocks-blocks.ensures.value in
    let held = sym c.block_parts.ensures in
    let all = blocks_leaves m sealed p c.args.levels r c.requires.well_formed c.requires.sealed c.in-Sequence.ensures s item in
    let all_held = all ∙ ap (λ b. leaves_at sealed (c.args.levels - 1) (block_places b (filled_of s))) held in (
      omega (arith, c.decreases, levels_positive r),
      (
        within,
        (
          c.requires.well_formed,
          (
            subst (λ b. AllPairs IsApart (part_spans sealed b)) held (blocks_apart m sealed p c.args.levels r c.requires.well_formed c.requires.sealed c.in-Sequence.ensures s item),
            (
              subst (λ b. AreReadable m sealed (c.args.levels - 1) (block_places b (filled_of s))) held
                  (blocks_read m sealed p c.args.levels r c.requires.well_formed c.requires.sealed c.in-Sequence.ensures s item),
              omega (arith, c.requires.room, ap length all_held),
            ),
          ),
        ),
      ),
    )

pub drop_at-returns-in-Sequence-clause-log : goal.drop_at-returns-in-Sequence-clause-log
drop_at-returns-in-Sequence-clause-log g t c =
    let m = g.L.Leaf.model in
    let sealed = c.args.shapes.now.sealed in
    let p = place_in c.args.id.0 c.args.block.now c.args.at in
    let s = c.take_blocks-blocks.result in
    let item = c.take_blocks-blocks.ensures.value in
    let all = blocks_leaves m sealed p c.args.levels c.requires.readable c.requires.well_formed c.requires.sealed c.in-Sequence.ensures s item in
    let all_held = all ∙ ap (λ b. leaves_at sealed (c.args.levels - 1) (block_places b (filled_of s))) (sym c.block_parts.ensures) in
    subst (λ xs. IsLogged c.args.log.now c.drop_blocks.new.log xs) (sym all_held) c.drop_blocks.ensures

pub drop_at-returns-in-Sequence-clause-cleared : goal.drop_at-returns-in-Sequence-clause-cleared
drop_at-returns-in-Sequence-clause-cleared g t c =
    let m = g.L.Leaf.model in
    let sealed = c.args.shapes.now.sealed in
    let p = place_in c.args.id.0 c.args.block.now c.args.at in
    let r = c.requires.readable in
    let (form, ids, of) = of_sequence (structure_at sealed c.args.id.0) c.in-Sequence.ensures in
    let (s, item) = sequence_there m sealed p c.args.levels r c.in-Sequence.ensures in
    rw c.take_blocks-blocks.ensures.empties
    (sequence_cleared m sealed p (laid_out m sealed c.requires.well_formed c.args.id.0 c.requires.sealed) r.value r.reads _ form ids of
    (cleared_with_item c.args.block.now c.args.at (item_within c.args.block.now c.args.at _ item)))

pub drop_inline-drop_first-requires : goal.drop_inline-drop_first-requires
drop_inline-drop_first-requires g t c κs within =
    let m = g.L.Leaf.model in
    let sealed = c.args.shapes.now.sealed in
    let p = place_in c.args.id.0 c.args.block.now c.args.at in
    let count = c.inline_count-count.result in
    let all : inline_places sealed p ≡ first_places sealed p count = sym (take_all count (inline_places sealed p) (omega (arith, c.inline_count-count.ensures))) in (
      omega (arith, c.decreases),
      (
        within,
        (
          c.requires.well_formed,
          (
            c.requires.sealed,
            (
              c.requires.inside,
              (
                omega (arith, c.inline_count-count.ensures),
                (subst (AreReadable m sealed c.args.levels) all c.requires.readable, omega (arith, c.requires.room, ap (λ ps. length (leaves_at sealed c.args.levels ps)) all)),
              ),
            ),
          ),
        ),
      ),
    )

pub drop_first-loop-i-init : goal.drop_first-loop-i-init
drop_first-loop-i-init g t c =
    let m = g.L.Leaf.model in
    let sealed = c.args.shapes.now.sealed in
    first_start m sealed c.args.levels (place_in c.args.id.0 c.args.block.now c.args.at) c.args.count c.args.log.now (laid_out m sealed c.requires.well_formed) c.requires.sealed c.requires.readable c.requires.room

pub drop_first-inline_part-offset-requires-clause-inside : goal.drop_first-inline_part-offset-requires-clause-inside
drop_first-inline_part-offset-requires-clause-inside g t c = omega (arith, c.loop-i.invariant.left.size, c.requires.inside)

pub drop_first-inline_part-offset-requires-clause-there : goal.drop_first-inline_part-offset-requires-clause-there
drop_first-inline_part-offset-requires-clause-there g t c =
    next_inside g.L.Leaf.model c.args.shapes.now.sealed c.args.levels (place_in c.args.id.0 c.args.block.now c.args.at) c.args.count c.args.log.now
    c.loop-i.i c.loop-i.block c.loop-i.log c.loop-i.invariant (omega arith) c.requires.count

pub drop_first-drop_at-requires : goal.drop_first-drop_at-requires
drop_first-drop_at-requires g t c κs within =
    let m = g.L.Leaf.model in
    let sealed = c.args.shapes.now.sealed in
    let p = place_in c.args.id.0 c.args.block.now c.args.at in
    let q = place_in c.inline_part-offset.result.0.0 c.loop-i.block c.inline_part-offset.result.1 in
    let (known, reads) = next_reads m sealed c.args.levels p c.args.count c.args.log.now c.loop-i.i c.loop-i.block c.loop-i.log c.loop-i.invariant (omega arith) c.requires.count q c.inline_part-offset.ensures in
    let room = next_has_room m sealed c.args.levels p c.args.count c.args.log.now c.loop-i.i c.loop-i.block c.loop-i.log c.loop-i.invariant (omega arith) c.requires.count q c.inline_part-offset.ensures in
    (omega (arith, c.decreases), (within, (c.requires.well_formed, (known, (reads, room)))))

pub drop_first-loop-i-preserved : goal.drop_first-loop-i-preserved
drop_first-loop-i-preserved g t c =
    let m = g.L.Leaf.model in
    let sealed = c.args.shapes.now.sealed in
    let p = place_in c.args.id.0 c.args.block.now c.args.at in
    let q = place_in c.inline_part-offset.result.0.0 c.loop-i.block c.inline_part-offset.result.1 in
    next_gone m sealed c.args.levels p c.args.count c.args.log.now c.loop-i.i c.loop-i.block c.loop-i.log c.loop-i.invariant (omega arith) c.requires.count q c.inline_part-offset.ensures
    (laid_out m sealed c.requires.well_formed) c.requires.sealed c.drop_at.new.block c.drop_at.new.log c.drop_at.ensures.cleared c.drop_at.ensures.log

pub drop_first-returns-clause-log : goal.drop_first-returns-clause-log
drop_first-returns-clause-log g t c =
    first_logged g.L.Leaf.model c.args.shapes.now.sealed c.args.levels (place_in c.args.id.0 c.args.block.now c.args.at) c.args.count c.args.log.now
    c.loop-i.i c.loop-i.block c.loop-i.log c.loop-i.invariant (omega arith)

pub drop_first-returns-clause-cleared : goal.drop_first-returns-clause-cleared
drop_first-returns-clause-cleared g t c =
    first_cleared g.L.Leaf.model c.args.shapes.now.sealed c.args.levels (place_in c.args.id.0 c.args.block.now c.args.at) c.args.count c.args.log.now
    c.loop-i.i c.loop-i.block c.loop-i.log c.loop-i.invariant (omega arith)

pub drop_blocks-loop-i-init : goal.drop_blocks-loop-i-init
drop_blocks-loop-i-init g t c =
    record { count = refl; left = record { reads = c.requires.readable; room = c.requires.room; logs = λ end logged. logged } }

pub drop_block-drop_at-requires : goal.drop_block-drop_at-requires
drop_block-drop_at-requires g t c κs within =
    let q = place_in c.in-One.shape.0 c.args.block.now 0 in
    let reads = rw c.in-One.is at c.requires.readable in
    let room = rw c.in-One.is at c.requires.room in
    let (known, one) = first_readable q _ reads in
    let alone = ap length (append-nil (leaves (value_at c.args.shapes.now.sealed c.args.levels q))) in
    (omega (arith, c.decreases), (within, (c.requires.well_formed, (known, (one, omega (arith, room, alone))))))

pub drop_block-drop_at-requires-in-Pair : goal.drop_block-drop_at-requires-in-Pair
drop_block-drop_at-requires-in-Pair g t c κs within =
    let m = g.L.Leaf.model in
    let sealed = c.args.shapes.now.sealed in
    let laid = laid_out m sealed c.requires.well_formed in
    let apart = rw c.in-Pair.is at c.requires.apart in
    let reads = rw c.in-Pair.is at c.requires.readable in
    let room = rw c.in-Pair.is at c.requires.room in
    let (known, one) = key_reads m sealed c.args.levels laid c.args.block.now c.in-Pair.key c.in-Pair.value c.in-Pair.offset c.args.log.now apart reads room in
    let enough = key_has_room m sealed c.args.levels laid c.args.block.now c.in-Pair.key c.in-Pair.value c.in-Pair.offset c.args.log.now apart reads room in
    (omega (arith, c.decreases), (within, (c.requires.well_formed, (known, (one, enough)))))

pub drop_block-drop_at-requires-in-Pair-2 : goal.drop_block-drop_at-requires-in-Pair-2
drop_block-drop_at-requires-in-Pair-2 g t c κs within =
    let m = g.L.Leaf.model in
    let sealed = c.args.shapes.now.sealed in
    let laid = laid_out m sealed c.requires.well_formed in
    let apart = rw c.in-Pair.is at c.requires.apart in
    let reads = rw c.in-Pair.is at c.requires.readable in
    let room = rw c.in-Pair.is at c.requires.room in
    let first = c.drop_at-in-Pair in
    let (known, one) = value_reads m sealed c.args.levels laid c.args.block.now c.in-Pair.key c.in-Pair.value c.in-Pair.offset c.args.log.now apart reads room first.new.block first.new.log first.ensures.cleared first.ensures.log in
    let enough = value_has_room m sealed c.args.levels laid c.args.block.now c.in-Pair.key c.in-Pair.value c.in-Pair.offset c.args.log.now apart reads room first.new.block first.new.log first.ensures.cleared first.ensures.log in
    (omega (arith, c.decreases), (within, (c.requires.well_formed, (known, (one, enough)))))

pub drop_block-returns-in-Pair : goal.drop_block-returns-in-Pair
drop_block-returns-in-Pair g t c =
    let m = g.L.Leaf.model in
    let sealed = c.args.shapes.now.sealed in
    let laid = laid_out m sealed c.requires.well_formed in
    let apart = rw c.in-Pair.is at c.requires.apart in
    let reads = rw c.in-Pair.is at c.requires.readable in
    let room = rw c.in-Pair.is at c.requires.room in
    let first = c.drop_at-in-Pair in
    let second = c.drop_at-in-Pair-2 in
    rw c.in-Pair.is
    (pair_logged m sealed c.args.levels laid c.args.block.now c.in-Pair.key c.in-Pair.value c.in-Pair.offset c.args.log.now apart reads room first.new.block first.new.log first.ensures.cleared first.ensures.log
    second.new.block second.new.log second.ensures.cleared second.ensures.log)

pub drop_blocks-drop_block-requires : goal.drop_blocks-drop_block-requires
drop_blocks-drop_block-requires g t c κs within =
    let m = g.L.Leaf.model in
    let sealed = c.args.shapes.now.sealed in
    let body = held_in c.args.parts in
    let blocks = filled_of c.args.blocks in
    let b = c.in-Some.block.now in
    let rest = drop (c.loop-i.i + 1) (filled_of c.loop-i.blocks) in
    let left = next_block m sealed c.args.levels body blocks c.args.log.now c.loop-i.blocks c.loop-i.i b (sym c.in-Some.ensures.value) c.loop-i.log c.loop-i.invariant.left in
    let reads = block_reads m sealed c.args.levels body blocks c.args.log.now b rest c.loop-i.log left in
    let room = block_has_room m sealed c.args.levels body blocks c.args.log.now b rest c.loop-i.log left in
    (omega (arith, c.decreases), (within, (c.requires.well_formed, (c.requires.apart, (reads, room)))))

pub drop_blocks-unreachable-requires : goal.drop_blocks-unreachable-requires
drop_blocks-unreachable-requires g t c =
    some_there (filled_of c.loop-i.blocks) c.loop-i.i (omega (arith, c.loop-i-test.true, c.len-i-end.ensures, c.loop-i.invariant.count)) c.in-None.ensures.value

pub drop_blocks-loop-i-preserved : goal.drop_blocks-loop-i-preserved
drop_blocks-loop-i-preserved g t c =
    let m = g.L.Leaf.model in
    let sealed = c.args.shapes.now.sealed in
    let body = held_in c.args.parts in
    let blocks = filled_of c.args.blocks in
    let b = c.in-Some.block.now in
    let here = sym c.in-Some.ensures.value in
    let rest = drop (c.loop-i.i + 1) (filled_of c.loop-i.blocks) in
    let left = next_block m sealed c.args.levels body blocks c.args.log.now c.loop-i.blocks c.loop-i.i b here c.loop-i.log c.loop-i.invariant.left in
    record {
      count = as_many_filled c.loop-i.blocks c.loop-i.i c.drop_block.new.block ∙ c.loop-i.invariant.count;
      left = others_stay m sealed c.args.levels body blocks c.args.log.now c.loop-i.blocks c.loop-i.i b here c.drop_block.new.log c.drop_block.new.block
          (block_gone m sealed c.args.levels body blocks c.args.log.now b rest c.loop-i.log left c.drop_block.new.log c.drop_block.ensures);
    }

pub drop_blocks-returns : goal.drop_blocks-returns
drop_blocks-returns g t c =
    blocks_logged g.L.Leaf.model c.args.shapes.now.sealed c.args.levels (held_in c.args.parts) (filled_of c.args.blocks) c.args.log.now
    (filled_of c.loop-i.blocks) c.loop-i.i c.loop-i.log (omega (arith, c.loop-i-test.false, c.len-i-end.ensures, c.loop-i.invariant.count)) c.loop-i.invariant.left

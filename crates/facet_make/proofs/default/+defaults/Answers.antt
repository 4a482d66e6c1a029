use Rattle.std.proofs.Common.{sym, arith}
use Rattle.facet_base.specs.declared.characteristic.Characteristic.TheVariants as trait
use Rattle.facet_registry.proofs.SealedLeaves.{sealed_leaves}
use Rattle.facet_registry.specs.Registry.{kind_at}
use Rattle.facet_make.proofs.DefaultCases.{case_too_deep, case_unoffered}
use Rattle.facet_make.proofs.DefaultSteps.{blocks_after, blocks_byte, blocks_empty, leaf_after, leaf_byte, leaf_empty, next_known, next_made, next_vacant, none_after, parts_after, stop_after, stop_inside, stop_readable, stop_room, tag_after, tag_byte, tag_empty}
use Rattle.facet_make.proofs.InitialStructures.{leaf_of_initial, plain_there}
use Rattle.facet_make.proofs.MadeByStructure.{stopped_at_once, stopped_by_memory}
use Rattle.facet_make.proofs.PartsMade.{PartsMade-end, PartsMade-none}
use Rattle.facet_make.proofs.default.+defaults.Goals as goal

pub default_at-returns-then-levels-eq0 : goal.default_at-returns-then-levels-eq0
default_at-returns-then-levels-eq0 g t c =
    rw c.if-levels-eq0.true (stopped_at_once (case_too_deep g.L.Leaf.model c.args.shapes.now.sealed c.args.id.0) c.requires.room)

pub default_at-returns-then-not-offers : goal.default_at-returns-then-not-offers
default_at-returns-then-not-offers g t c =
    stopped_at_once (case_unoffered g.L.Leaf.model c.args.shapes.now.sealed c.args.levels c.args.id.0 (sym (c.if-not-offers.ensures.sealed c.requires.sealed))) c.requires.room

pub default_at-put_default_leaf-requires-clause-can : goal.default_at-put_default_leaf-requires-clause-can
default_at-put_default_leaf-requires-clause-can g t c =
    (sealed_leaves g.L.Leaf.model c.args.shapes.now.sealed c.requires.well_formed c.args.id.0 c.requires.sealed).capable c.in-Leaf.kind trait.Default
    (leaf_of_initial (kind_at c.args.shapes.now.sealed c.args.id.0) c.in-Leaf.kind (sym c.in-Leaf.ensures)) (sym (c.if-not-offers.ensures.sealed c.requires.sealed))

pub default_at-put_default_leaf-requires-clause-below : goal.default_at-put_default_leaf-requires-clause-below
default_at-put_default_leaf-requires-clause-below g t c =
    leaf_byte g.L.Leaf.model c.args.shapes.now.sealed c.requires.well_formed c.args.id.0 c.args.at c.args.block.now c.requires.sealed c.requires.vacant c.in-Leaf.kind c.in-Leaf.ensures

pub default_at-put_default_leaf-requires-clause-empty : goal.default_at-put_default_leaf-requires-clause-empty
default_at-put_default_leaf-requires-clause-empty g t c =
    leaf_empty g.L.Leaf.model c.args.shapes.now.sealed c.requires.well_formed c.args.id.0 c.args.at c.args.block.now c.requires.sealed c.requires.vacant c.in-Leaf.kind c.in-Leaf.ensures

pub default_at-put_first_tag-requires-clause-below : goal.default_at-put_first_tag-requires-clause-below
default_at-put_first_tag-requires-clause-below g t c =
    tag_byte g.L.Leaf.model c.args.shapes.now.sealed c.requires.well_formed c.args.id.0 c.args.at c.args.block.now c.requires.sealed c.requires.vacant c.in-FirstTag.ensures

pub default_at-put_first_tag-requires-clause-empty : goal.default_at-put_first_tag-requires-clause-empty
default_at-put_first_tag-requires-clause-empty g t c =
    tag_empty g.L.Leaf.model c.args.shapes.now.sealed c.requires.well_formed c.args.id.0 c.args.at c.args.block.now c.requires.sealed c.requires.vacant c.in-FirstTag.ensures

pub default_at-put_no_blocks-requires-clause-below : goal.default_at-put_no_blocks-requires-clause-below
default_at-put_no_blocks-requires-clause-below g t c =
    blocks_byte g.L.Leaf.model c.args.shapes.now.sealed c.requires.well_formed c.args.id.0 c.args.at c.args.block.now c.requires.sealed c.requires.vacant c.in-NoBlocks.ensures

pub default_at-put_no_blocks-requires-clause-empty : goal.default_at-put_no_blocks-requires-clause-empty
default_at-put_no_blocks-requires-clause-empty g t c =
    blocks_empty g.L.Leaf.model c.args.shapes.now.sealed c.requires.well_formed c.args.id.0 c.args.at c.args.block.now c.requires.sealed c.requires.vacant c.in-NoBlocks.ensures

pub default_at-default_parts-requires : goal.default_at-default_parts-requires
default_at-default_parts-requires g t c κs within = (
  omega (arith, c.decreases),
  (within, (c.requires.well_formed, (c.requires.sealed, (plain_there c.args.shapes.now.sealed c.args.id.0 c.requires.sealed c.in-Parts.ensures, (c.requires.vacant, c.requires.room))))),
)

pub default_at-returns-in-None : goal.default_at-returns-in-None
default_at-returns-in-None g t c =
    none_after g.L.Leaf.model c.args.shapes.now.sealed c.requires.well_formed c.args.id.0 c.args.at c.args.block.now c.requires.sealed c.requires.vacant c.args.levels c.args.held (omega arith) (sym (c.if-not-offers.ensures.sealed c.requires.sealed)) c.in-None.ensures c.requires.room

pub default_at-returns-in-Ok : goal.default_at-returns-in-Ok
default_at-returns-in-Ok g t c =
    leaf_after g.L.Leaf.model c.args.shapes.now.sealed c.requires.well_formed c.args.id.0 c.args.at c.args.block.now c.requires.sealed c.requires.vacant c.args.levels c.args.held (omega arith) (sym (c.if-not-offers.ensures.sealed c.requires.sealed))
    c.in-Leaf.kind c.in-Leaf.ensures (g.met.L.Leaf.laws.default_kind c.in-Leaf.kind) c.in-Ok.ensures.put c.put_default_leaf.ensures.leaves c.put_default_leaf.ensures.spare

pub default_at-returns-in-Err : goal.default_at-returns-in-Err
default_at-returns-in-Err g t c = stopped_by_memory c.in-Err.ensures.unchanged c.put_default_leaf.ensures.leaves c.put_default_leaf.ensures.spare c.requires.room

pub default_at-returns-in-Parts : goal.default_at-returns-in-Parts
default_at-returns-in-Parts g t c =
    parts_after g.L.Leaf.model c.args.shapes.now.sealed c.requires.well_formed c.args.id.0 c.args.at c.args.block.now c.requires.sealed c.requires.vacant c.args.levels c.args.held (omega arith) (sym (c.if-not-offers.ensures.sealed c.requires.sealed))
    c.default_parts.new.block c.args.log.now c.default_parts.new.log c.default_parts.result (plain_there c.args.shapes.now.sealed c.args.id.0 c.requires.sealed c.in-Parts.ensures) c.default_parts.ensures

pub default_at-returns-in-FirstTag : goal.default_at-returns-in-FirstTag
default_at-returns-in-FirstTag g t c =
    tag_after g.L.Leaf.model c.args.shapes.now.sealed c.requires.well_formed c.args.id.0 c.args.at c.args.block.now c.requires.sealed c.requires.vacant c.args.levels c.args.held (omega arith) (sym (c.if-not-offers.ensures.sealed c.requires.sealed))
    c.in-FirstTag.ensures c.put_first_tag.ensures c.requires.room

pub default_at-returns-in-NoBlocks : goal.default_at-returns-in-NoBlocks
default_at-returns-in-NoBlocks g t c =
    blocks_after g.L.Leaf.model c.args.shapes.now.sealed c.requires.well_formed c.args.id.0 c.args.at c.args.block.now c.requires.sealed c.requires.vacant c.args.levels c.args.held (omega arith) (sym (c.if-not-offers.ensures.sealed c.requires.sealed))
    c.in-NoBlocks.ensures c.put_no_blocks.ensures c.requires.room

pub default_parts-loop-i-init : goal.default_parts-loop-i-init
default_parts-loop-i-init g t c = PartsMade-none c.requires.room

pub default_parts-plain_part-offset-requires-clause-inside : goal.default_parts-plain_part-offset-requires-clause-inside
default_parts-plain_part-offset-requires-clause-inside g t c = omega (arith, c.requires.vacant.inside, c.loop-i.invariant.changed.size)

pub default_parts-default_at-requires : goal.default_parts-default_at-requires
default_parts-default_at-requires g t c κs within = (
  omega (arith, c.decreases),
  (
    within,
    (
      c.requires.well_formed,
      (
        next_known c.requires.well_formed c.requires.sealed c.requires.plain c.requires.vacant c.loop-i.invariant c.plain_part-offset.ensures,
        (next_vacant c.requires.well_formed c.requires.sealed c.requires.plain c.requires.vacant c.loop-i.invariant c.plain_part-offset.ensures, c.loop-i.invariant.room),
      ),
    ),
  ),
)

pub default_parts-loop-i-preserved : goal.default_parts-loop-i-preserved
default_parts-loop-i-preserved g t c =
    next_made c.requires.well_formed c.requires.sealed c.requires.plain c.requires.vacant c.loop-i.invariant c.plain_part-offset.ensures (rw c.in-Ok-Some.field-0-is at c.in-Ok-Some.ensures)

pub default_parts-returns : goal.default_parts-returns
default_parts-returns g t c = PartsMade-end c.loop-i.invariant (omega arith)

-- a part is refused
pub default_parts-drop_parts-requires-clause-inside : goal.default_parts-drop_parts-requires-clause-inside
default_parts-drop_parts-requires-clause-inside g t c =
    stop_inside c.requires.well_formed c.requires.sealed c.requires.plain c.requires.vacant c.loop-i.invariant c.plain_part-offset.ensures (rw c.in-Ok-None.field-0-is at c.in-Ok-None.ensures)

pub default_parts-drop_parts-requires-clause-readable : goal.default_parts-drop_parts-requires-clause-readable
default_parts-drop_parts-requires-clause-readable g t c =
    stop_readable c.requires.well_formed c.requires.sealed c.requires.plain c.requires.vacant c.loop-i.invariant c.plain_part-offset.ensures (rw c.in-Ok-None.field-0-is at c.in-Ok-None.ensures)

pub default_parts-drop_parts-requires-clause-room : goal.default_parts-drop_parts-requires-clause-room
default_parts-drop_parts-requires-clause-room g t c =
    stop_room c.requires.well_formed c.requires.sealed c.requires.plain c.requires.vacant c.loop-i.invariant c.plain_part-offset.ensures (rw c.in-Ok-None.field-0-is at c.in-Ok-None.ensures)

pub default_parts-returns-in-Ok-None : goal.default_parts-returns-in-Ok-None
default_parts-returns-in-Ok-None g t c =
    stop_after c.requires.well_formed c.requires.sealed c.requires.plain c.requires.vacant c.loop-i.invariant c.plain_part-offset.ensures (rw c.in-Ok-None.field-0-is at c.in-Ok-None.ensures)
    c.drop_parts.ensures.cleared c.drop_parts.ensures.leaves c.drop_parts.ensures.spare

-- a part finds no memory
pub default_parts-drop_parts-requires-in-Err-clause-inside : goal.default_parts-drop_parts-requires-in-Err-clause-inside
default_parts-drop_parts-requires-in-Err-clause-inside g t c =
    stop_inside c.requires.well_formed c.requires.sealed c.requires.plain c.requires.vacant c.loop-i.invariant c.plain_part-offset.ensures c.in-Err.ensures

pub default_parts-drop_parts-requires-in-Err-clause-readable : goal.default_parts-drop_parts-requires-in-Err-clause-readable
default_parts-drop_parts-requires-in-Err-clause-readable g t c =
    stop_readable c.requires.well_formed c.requires.sealed c.requires.plain c.requires.vacant c.loop-i.invariant c.plain_part-offset.ensures c.in-Err.ensures

pub default_parts-drop_parts-requires-in-Err-clause-room : goal.default_parts-drop_parts-requires-in-Err-clause-room
default_parts-drop_parts-requires-in-Err-clause-room g t c =
    stop_room c.requires.well_formed c.requires.sealed c.requires.plain c.requires.vacant c.loop-i.invariant c.plain_part-offset.ensures c.in-Err.ensures

pub default_parts-returns-in-Err : goal.default_parts-returns-in-Err
default_parts-returns-in-Err g t c =
    stop_after c.requires.well_formed c.requires.sealed c.requires.plain c.requires.vacant c.loop-i.invariant c.plain_part-offset.ensures c.in-Err.ensures
    c.drop_parts-in-Err.ensures.cleared c.drop_parts-in-Err.ensures.leaves c.drop_parts-in-Err.ensures.spare

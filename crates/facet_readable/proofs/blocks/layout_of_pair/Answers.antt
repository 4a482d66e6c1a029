use Rattle.std.proofs.Common.{◌+◌, ap, arith, refl}
use Rattle.facet_readable.proofs.PairLayouts.{layout_of_pair, pair_holds}
use Rattle.facet_readable.proofs.blocks.layout_of_pair.Goals as goal

pub overflow_add-tail : goal.overflow_add-tail
overflow_add-tail g c =
    let now = c.args.shapes.now in
    let holds = pair_holds g.L.Leaf.model now.sealed now.drafts c.sealed-sealed.ensures.registry.well_formed c.args.key c.args.value c.requires.key c.requires.value
    c.part_layout-key_layout.result c.part_layout-value_layout.result c.part_layout-key_layout.ensures c.part_layout-value_layout.ensures in
    let size = ap (λ l. l.size) c.pair_layout-size.ensures in
    search (arith, c.value_offset-offset.ensures, size, holds.value_inside, c.pair_layout-size.type_inv)

pub overflow_sub-result : goal.overflow_sub-result
overflow_sub-result g c =
    let now = c.args.shapes.now in
    let holds = pair_holds g.L.Leaf.model now.sealed now.drafts c.sealed-sealed.ensures.registry.well_formed c.args.key c.args.value c.requires.key c.requires.value
    c.part_layout-key_layout.result c.part_layout-value_layout.result c.part_layout-key_layout.ensures c.part_layout-value_layout.ensures in
    omega (arith, c.value_offset-offset.ensures, holds.key_before)

pub overflow_sub-result-2 : goal.overflow_sub-result-2
overflow_sub-result-2 g c =
    let now = c.args.shapes.now in
    let holds = pair_holds g.L.Leaf.model now.sealed now.drafts c.sealed-sealed.ensures.registry.well_formed c.args.key c.args.value c.requires.key c.requires.value
    c.part_layout-key_layout.result c.part_layout-value_layout.result c.part_layout-key_layout.ensures c.part_layout-value_layout.ensures in
    let size = ap (λ l. l.size) c.pair_layout-size.ensures in
    omega (arith, c.value_offset-offset.ensures, size, holds.value_inside)

pub returns : goal.returns
returns g c =
    let now = c.args.shapes.now in
    let well = c.sealed-sealed.ensures.registry.well_formed in
    let holds = pair_holds g.L.Leaf.model now.sealed now.drafts well c.args.key c.args.value c.requires.key c.requires.value
    c.part_layout-key_layout.result c.part_layout-value_layout.result c.part_layout-key_layout.ensures c.part_layout-value_layout.ensures in
    let size = ap (λ l. l.size) c.pair_layout-size.ensures in
    layout_of_pair g.L.Leaf.model now.sealed now.drafts well c.args.key c.args.value c.requires.key c.requires.value
    c.part_layout-key_layout.result c.part_layout-value_layout.result c.part_layout-key_layout.ensures c.part_layout-value_layout.ensures _ (record {
      size = size;
      gap = refl;
      gap_end = omega (arith, c.value_offset-offset.ensures, holds.key_before);
      tail = ap (λ n. n + c.part_layout-value_layout.result.size) c.value_offset-offset.ensures;
      tail_end = omega (arith, c.value_offset-offset.ensures, size, holds.value_inside);
    })

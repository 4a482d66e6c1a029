use Rattle.std.proofs.Common.{◌∙◌, ◌++◌, ap}
use Rattle.facet_causes.specs.Arrangement.{part_at}
use Rattle.facet_outline.specs.Layout.{pair_layout}
use Rattle.facet_shape.specs.WithoutSpare.{shape_without_spare}
use Rattle.facet_make.proofs.BlockSizes.{list_size, map_size, set_size}
use Rattle.facet_make.proofs.initial.block_size_of.Goals as goal

pub returns-in-List : goal.returns-in-List
returns-in-List g c =
    ap (λ l. l.size) c.part_layout.ensures
    ∙ list_size g.L.Leaf.model c.args.shapes.now.sealed c.args.shapes.now.drafts c.sealed-sealed.ensures.registry.well_formed c.args.id.0 c.requires.sealed (shape_without_spare c.sealed_shape.result.now) c.sealed_shape.ensures c.requires.blocks
    c.in-List.list c.in-List.is

pub returns-in-Set : goal.returns-in-Set
returns-in-Set g c =
    ap (λ l. l.size) c.part_layout-in-Set.ensures
    ∙ set_size g.L.Leaf.model c.args.shapes.now.sealed c.args.shapes.now.drafts c.sealed-sealed.ensures.registry.well_formed c.args.id.0 c.requires.sealed (shape_without_spare c.sealed_shape.result.now) c.sealed_shape.ensures c.requires.blocks
    c.in-Set.set c.in-Set.is

pub returns-in-Map : goal.returns-in-Map
returns-in-Map g c =
    ap (λ l. l.size) c.pair_layout.ensures
    ∙ ap (λ l. (pair_layout l c.part_layout-in-Map-2.result).size) c.part_layout-in-Map.ensures
    ∙ ap (λ l. (pair_layout (part_at (c.args.shapes.now.sealed ++ c.args.shapes.now.drafts) c.in-Map.map.k) l).size) c.part_layout-in-Map-2.ensures
    ∙ map_size g.L.Leaf.model c.args.shapes.now.sealed c.args.shapes.now.drafts c.sealed-sealed.ensures.registry.well_formed c.args.id.0 c.requires.sealed (shape_without_spare c.sealed_shape.result.now) c.sealed_shape.ensures c.requires.blocks
    c.in-Map.map c.in-Map.is

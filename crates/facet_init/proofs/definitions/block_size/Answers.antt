use Rattle.std.proofs.Common.{◌∙◌, ◌++◌, ap, sym}
use Rattle.facet_causes.specs.Arrangement.{part_at}
use Rattle.facet_outline.specs.Layout.{pair_layout}
use Rattle.facet_init.proofs.BlockSizes.{element_size, has_element, pair_size}
use Rattle.facet_init.proofs.definitions.block_size.Goals as goal

pub unreachable-requires : goal.unreachable-requires
unreachable-requires g c = has_element g.L.Leaf.model c.args.shapes.now.sealed c.args.shapes.now.drafts c.sealed-sealed.ensures.registry.well_formed c.args.s.0 c.requires.sealed c.sealed_shape.result.now c.sealed_shape.ensures c.requires.kind c.in_default.not-Map (sym c.element_in.ensures ∙ c.in-None.is)

pub returns-in-Map : goal.returns-in-Map
returns-in-Map g c = λ form ids of.
    ap (λ l. l.size) c.pair_layout.ensures
    ∙ ap (λ l. (pair_layout l c.part_layout-in-Map.result).size) c.part_layout.ensures
    ∙ ap (λ l. (pair_layout (part_at (c.args.shapes.now.sealed ++ c.args.shapes.now.drafts) c.in-Map.map.k) l).size) c.part_layout-in-Map.ensures
    ∙ pair_size g.L.Leaf.model c.args.shapes.now.sealed c.args.shapes.now.drafts c.sealed-sealed.ensures.registry.well_formed c.args.s.0 c.requires.sealed c.sealed_shape.result.now c.sealed_shape.ensures c.requires.kind c.in-Map.map c.in-Map.is form ids of

pub returns-in-Some : goal.returns-in-Some
returns-in-Some g c = λ form ids of.
    ap (λ l. l.size) c.part_layout-in-Some.ensures ∙ element_size g.L.Leaf.model c.args.shapes.now.sealed c.args.shapes.now.drafts c.sealed-sealed.ensures.registry.well_formed c.args.s.0 c.requires.sealed c.sealed_shape.result.now c.sealed_shape.ensures c.requires.kind c.in_default.not-Map c.in-Some.element (sym c.element_in.ensures ∙ c.in-Some.is) form ids of

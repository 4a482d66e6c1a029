use Rattle.facet_lookup.proofs.KeyShapes.{is_known, map_key, map_ordered, no_other, set_key, set_ordered}
use Rattle.facet_lookup.proofs.definitions.key_shape.Goals as goal

pub returns-in-Map-clause-key : goal.returns-in-Map-clause-key
returns-in-Map-clause-key g c = map_key g.L.Leaf.model c.args.shapes.now.sealed c.sealed-sealed.ensures.registry.well_formed c.args.s.0 c.sealed_shape.result.now c.sealed_shape.ensures c.requires.kind c.in-Map.map c.in-Map.is

pub returns-in-Map-clause-sealed : goal.returns-in-Map-clause-sealed
returns-in-Map-clause-sealed g c =
    is_known c.args.shapes.now.sealed c.in-Map.map.k.0
    (map_ordered g.L.Leaf.model c.args.shapes.now.sealed c.sealed-sealed.ensures.registry.well_formed c.args.s.0 c.sealed_shape.result.now c.sealed_shape.ensures c.requires.kind c.in-Map.map c.in-Map.is)

pub returns-in-Map-clause-ordered : goal.returns-in-Map-clause-ordered
returns-in-Map-clause-ordered g c = map_ordered g.L.Leaf.model c.args.shapes.now.sealed c.sealed-sealed.ensures.registry.well_formed c.args.s.0 c.sealed_shape.result.now c.sealed_shape.ensures c.requires.kind c.in-Map.map c.in-Map.is

pub returns-in-Set-clause-key : goal.returns-in-Set-clause-key
returns-in-Set-clause-key g c = set_key g.L.Leaf.model c.args.shapes.now.sealed c.sealed-sealed.ensures.registry.well_formed c.args.s.0 c.sealed_shape.result.now c.sealed_shape.ensures c.requires.kind c.in-Set.set c.in-Set.is

pub returns-in-Set-clause-sealed : goal.returns-in-Set-clause-sealed
returns-in-Set-clause-sealed g c =
    is_known c.args.shapes.now.sealed c.in-Set.set.t.0
    (set_ordered g.L.Leaf.model c.args.shapes.now.sealed c.sealed-sealed.ensures.registry.well_formed c.args.s.0 c.sealed_shape.result.now c.sealed_shape.ensures c.requires.kind c.in-Set.set c.in-Set.is)

pub returns-in-Set-clause-ordered : goal.returns-in-Set-clause-ordered
returns-in-Set-clause-ordered g c = set_ordered g.L.Leaf.model c.args.shapes.now.sealed c.sealed-sealed.ensures.registry.well_formed c.args.s.0 c.sealed_shape.result.now c.sealed_shape.ensures c.requires.kind c.in-Set.set c.in-Set.is

pub unreachable-requires : goal.unreachable-requires
unreachable-requires g c = no_other g.L.Leaf.model c.args.shapes.now.sealed c.sealed-sealed.ensures.registry.well_formed c.args.s.0 c.sealed_shape.result.now c.sealed_shape.ensures c.requires.kind c.in_default.not-Map c.in_default.not-Set

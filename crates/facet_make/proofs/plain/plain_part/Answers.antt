use Rattle.std.proofs.Common.{◌≡◌, IsSomeAnd, Some, slice_get, subst, sym}
use Rattle.facet_make.proofs.PlainPlaces.{part_place_is, plain_part_inside}
use Rattle.facet_make.specs.Initial.{plain_body}
use Rattle.facet_trees.specs.Structure.{structure_at}
use Rattle.facet_walk.specs.Look.{IsInside, place_of}
use Rattle.facet_make.proofs.plain.plain_part.Goals as goal

pub part-requires : goal.part-requires
part-requires g c =
    let places = rw (c.new.ensures.same_block, c.new.ensures.offset) at c.plain_parts.ensures in
    subst (λ ps. IsSomeAnd (slice_get ps c.args.i) IsInside) (sym places)
    (plain_part_inside g.L.Leaf.model c.args.shapes.now.sealed c.sealed-sealed.ensures.registry.well_formed c.args.id.0 c.args.at c.args.block.now c.requires.sealed c.requires.plain c.requires.inside c.args.i c.requires.there)

pub returns : goal.returns
returns g c =
    let places = rw (c.new.ensures.same_block, c.new.ensures.offset) at c.plain_parts.ensures in
    part_place_is c.args.id.0 c.args.at c.args.block.now (plain_body (structure_at c.args.shapes.now.sealed c.args.id.0)) c.args.i (place_of c.part.result)
    (subst (λ ps. slice_get ps c.args.i ≡ Some (place_of c.part.result)) places c.part.ensures)

use Rattle.std.proofs.Common.{◌+◌, ◌≤◌, arith, refl, sym, subst, ◌↔◌, IsTrue}
use Rattle.facet_block.specs.Block.{size_of}
use Rattle.facet_outline.specs.declared.value_kind.ValueKind.TheVariants as kind
use Rattle.facet_readable.proofs.AloneByStructure.{alone_of_no_parts, alone_of_parts, alone_of_row, bare, bare_front, own_alone, own_and_parts, own_below, own_front, parts_alone, parts_known, row_inside, tagged_front}
use Rattle.facet_readable.proofs.ItemsByKind.{def_known}
use Rattle.facet_readable.specs.Gaps.{IsEmptyFrom}
use Rattle.facet_values.proofs.LaidOut.{laid_out}
use Rattle.facet_walk.specs.Look.{place_of}
use Rattle.facet_readable.proofs.alone.is_alone.Goals as goal

pub is_empty_from-requires-in-Leaf-clause-some : goal.is_empty_from-requires-in-Leaf-clause-some
is_empty_from-requires-in-Leaf-clause-some g c =
    let now = c.args.shapes.now in
    let well = c.sealed-sealed.ensures.registry.well_formed in
    let laid = laid_out g.L.Leaf.model now.sealed well c.args.place.shape.0 c.requires.sealed in
    let own = own_below now.sealed (place_of c.args.place) c.kind_of.result c.sealed_shape.result.now (record { here = c.sealed_shape.ensures; kind = sym (c.kind_of.ensures.sealed c.requires.sealed) }) own_alone (own_front c.kind_of.result c.in-Leaf.is) refl laid in
    omega (arith, c.requires.size, own)

pub row_size-requires-clause-sealed : goal.row_size-requires-clause-sealed
row_size-requires-clause-sealed g c =
    def_known g.L.Leaf.model c.args.shapes.now.sealed (place_of c.args.place) c.sealed_shape.result.now c.sealed-sealed.ensures.registry.well_formed c.sealed_shape.ensures

pub row_size-requires-clause-fits : goal.row_size-requires-clause-fits
row_size-requires-clause-fits g c =
    let now = c.args.shapes.now in
    let well = c.sealed-sealed.ensures.registry.well_formed in
    let laid = laid_out g.L.Leaf.model now.sealed well c.args.place.shape.0 c.requires.sealed in
    let row = row_inside now.sealed (place_of c.args.place) c.sealed_shape.result.now (record { here = c.sealed_shape.ensures; kind = sym (c.in-Array.ensures.sealed c.requires.sealed) }) laid in
    omega (arith, row, c.requires.size, c.ranges.size.fits)

pub is_empty_from-requires-in-Array-clause-some : goal.is_empty_from-requires-in-Array-clause-some
is_empty_from-requires-in-Array-clause-some g c =
    let now = c.args.shapes.now in
    let well = c.sealed-sealed.ensures.registry.well_formed in
    let laid = laid_out g.L.Leaf.model now.sealed well c.args.place.shape.0 c.requires.sealed in
    let row = row_inside now.sealed (place_of c.args.place) c.sealed_shape.result.now (record { here = c.sealed_shape.ensures; kind = sym (c.in-Array.ensures.sealed c.requires.sealed) }) laid in
    omega (arith, row, c.requires.size, c.row_size.ensures)

pub is_empty_beside_parts-requires-clause-parts : goal.is_empty_beside_parts-requires-clause-parts
is_empty_beside_parts-requires-clause-parts g c =
    let now = c.args.shapes.now in
    let well = c.sealed-sealed.ensures.registry.well_formed in
    let laid = laid_out g.L.Leaf.model now.sealed well c.args.place.shape.0 c.requires.sealed in
    let inside = subst (λ n. c.args.place.at.offset + n ≤ size_of c.args.place.at.block.now) c.requires.size c.requires.inside in
    parts_known now.sealed (place_of c.args.place) kind.Struct c.sealed_shape.result.now (record { here = c.sealed_shape.ensures; kind = sym (c.in-Struct.ensures.sealed c.requires.sealed) }) parts_alone refl tt laid inside

pub is_empty_beside_parts-requires-in-Enum-clause-some : goal.is_empty_beside_parts-requires-in-Enum-clause-some
is_empty_beside_parts-requires-in-Enum-clause-some g c =
    let now = c.args.shapes.now in
    let well = c.sealed-sealed.ensures.registry.well_formed in
    let laid = laid_out g.L.Leaf.model now.sealed well c.args.place.shape.0 c.requires.sealed in
    let own = own_below now.sealed (place_of c.args.place) c.kind_of.result c.sealed_shape.result.now (record { here = c.sealed_shape.ensures; kind = sym (c.kind_of.ensures.sealed c.requires.sealed) }) own_and_parts (tagged_front c.kind_of.result c.in-Enum.is) refl laid in
    omega (arith, c.requires.size, own)

pub is_empty_beside_parts-requires-in-Enum-clause-parts : goal.is_empty_beside_parts-requires-in-Enum-clause-parts
is_empty_beside_parts-requires-in-Enum-clause-parts g c =
    let now = c.args.shapes.now in
    let well = c.sealed-sealed.ensures.registry.well_formed in
    let laid = laid_out g.L.Leaf.model now.sealed well c.args.place.shape.0 c.requires.sealed in
    let inside = subst (λ n. c.args.place.at.offset + n ≤ size_of c.args.place.at.block.now) c.requires.size c.requires.inside in
    parts_known now.sealed (place_of c.args.place) c.kind_of.result c.sealed_shape.result.now (record { here = c.sealed_shape.ensures; kind = sym (c.kind_of.ensures.sealed c.requires.sealed) }) own_and_parts (tagged_front c.kind_of.result c.in-Enum.is) tt laid inside

pub returns-in-NoValue : goal.returns-in-NoValue
returns-in-NoValue g c =
    let now = c.args.shapes.now in
    alone_of_no_parts now.sealed (place_of c.args.place) c.kind_of.result c.sealed_shape.result.now (record { here = c.sealed_shape.ensures; kind = sym (c.kind_of.ensures.sealed c.requires.sealed) }) bare (bare_front c.kind_of.result c.in-NoValue.is) tt c.args.size c.is_empty_from.result c.is_empty_from.ensures

pub returns-in-Leaf : goal.returns-in-Leaf
returns-in-Leaf g c =
    let now = c.args.shapes.now in
    alone_of_no_parts now.sealed (place_of c.args.place) c.kind_of.result c.sealed_shape.result.now (record { here = c.sealed_shape.ensures; kind = sym (c.kind_of.ensures.sealed c.requires.sealed) }) own_alone (own_front c.kind_of.result c.in-Leaf.is) tt c.args.size c.is_empty_from-in-Leaf.result c.is_empty_from-in-Leaf.ensures

pub returns-in-Array : goal.returns-in-Array
returns-in-Array g c =
    let now = c.args.shapes.now in
    let p = place_of c.args.place in
    let r = c.is_empty_from-in-Array.result in
    alone_of_row now.sealed p c.sealed_shape.result.now (record { here = c.sealed_shape.ensures; kind = sym (c.in-Array.ensures.sealed c.requires.sealed) }) c.args.size r (subst (λ n. IsTrue r ↔ IsEmptyFrom p n c.args.size) c.row_size.ensures c.is_empty_from-in-Array.ensures)

pub returns-in-Struct : goal.returns-in-Struct
returns-in-Struct g c =
    let now = c.args.shapes.now in
    alone_of_parts now.sealed (place_of c.args.place) kind.Struct c.sealed_shape.result.now (record { here = c.sealed_shape.ensures; kind = sym (c.in-Struct.ensures.sealed c.requires.sealed) }) parts_alone refl tt c.args.size c.is_empty_beside_parts.result c.is_empty_beside_parts.ensures

pub returns-in-Enum : goal.returns-in-Enum
returns-in-Enum g c =
    let now = c.args.shapes.now in
    alone_of_parts now.sealed (place_of c.args.place) c.kind_of.result c.sealed_shape.result.now (record { here = c.sealed_shape.ensures; kind = sym (c.kind_of.ensures.sealed c.requires.sealed) }) own_and_parts (tagged_front c.kind_of.result c.in-Enum.is) tt c.args.size c.is_empty_beside_parts-in-Enum.result c.is_empty_beside_parts-in-Enum.ensures

use Rattle.std.proofs.Common.{◌<◌, ◌∙◌, All, length, sym, subst}
use Rattle.std.specs.Option.{option_to_list}
use Rattle.facet_readable.proofs.ItemsByKind.{any_item, asks_nothing, box_item, box_known, def_known, leaf_item, list_item, list_known, map_item, set_item, set_known, slice_item, slice_known}
use Rattle.facet_readable.specs.Blocks.{IsLayoutOf}
use Rattle.facet_walk.proofs.SeenKinds.{elements_stay}
use Rattle.facet_walk.specs.Look.{place_of}
use Rattle.facet_readable.proofs.whole.has_item_of_value.Goals as goal

pub element_layout-requires : goal.element_layout-requires
element_layout-requires g c =
    let now = c.args.shapes.now in
    subst (λ e. All (λ id. id.0 < length now.sealed) (option_to_list e)) (sym c.element_in.ensures)
    (list_known g.L.Leaf.model now.sealed (place_of c.args.place) c.sealed_shape.result.now c.sealed-sealed.ensures.registry.well_formed (record { here = c.sealed_shape.ensures; kind = sym (c.in-List.ensures.sealed c.requires) }))

pub element_layout-requires-in-Set : goal.element_layout-requires-in-Set
element_layout-requires-in-Set g c =
    let now = c.args.shapes.now in
    subst (λ e. All (λ id. id.0 < length now.sealed) (option_to_list e)) (sym c.element_in-in-Set.ensures)
    (set_known g.L.Leaf.model now.sealed (place_of c.args.place) c.sealed_shape.result.now c.sealed-sealed.ensures.registry.well_formed (record { here = c.sealed_shape.ensures; kind = sym (c.in-Set.ensures.sealed c.requires) }))

pub element_layout-requires-in-Box : goal.element_layout-requires-in-Box
element_layout-requires-in-Box g c =
    let now = c.args.shapes.now in
    subst (λ e. All (λ id. id.0 < length now.sealed) (option_to_list e)) (sym c.element_in-in-Box.ensures)
    (box_known g.L.Leaf.model now.sealed (place_of c.args.place) c.sealed_shape.result.now c.sealed-sealed.ensures.registry.well_formed (record { here = c.sealed_shape.ensures; kind = sym (c.in-Box.ensures.sealed c.requires) }))

pub element_layout-requires-in-BoxedSlice : goal.element_layout-requires-in-BoxedSlice
element_layout-requires-in-BoxedSlice g c =
    let now = c.args.shapes.now in
    subst (λ e. All (λ id. id.0 < length now.sealed) (option_to_list e)) (sym (c.pointed_elements.ensures ∙ elements_stay g.L.Leaf.model now.sealed now.drafts c.sealed-sealed.ensures.registry.well_formed c.args.place.shape.0 c.sealed_shape.result.now c.sealed_shape.ensures))
    (slice_known g.L.Leaf.model now.sealed (place_of c.args.place) c.sealed_shape.result.now c.sealed-sealed.ensures.registry.well_formed (record { here = c.sealed_shape.ensures; kind = sym (c.in-BoxedSlice.ensures.sealed c.requires) }))

pub map_layout-requires-clause-sealed : goal.map_layout-requires-clause-sealed
map_layout-requires-clause-sealed g c =
    def_known g.L.Leaf.model c.args.shapes.now.sealed (place_of c.args.place) c.sealed_shape.result.now c.sealed-sealed.ensures.registry.well_formed c.sealed_shape.ensures

pub returns-in-Leaf : goal.returns-in-Leaf
returns-in-Leaf g c =
    leaf_item g.L.Leaf.model c.args.shapes.now.sealed (place_of c.args.place) c.sealed_shape.result.now c.in-Leaf.kind (record { here = c.sealed_shape.ensures; kind = sym (c.in-Leaf.ensures.sealed c.requires) }) c.has_leaf_of.result c.has_leaf_of.ensures

pub returns-in-List : goal.returns-in-List
returns-in-List g c =
    let now = c.args.shapes.now in
    list_item g.L.Leaf.model now.sealed (place_of c.args.place) c.sealed_shape.result.now (record { here = c.sealed_shape.ensures; kind = sym (c.in-List.ensures.sealed c.requires) }) c.has_blocks.result c.element_layout.result
    (subst (λ e. IsLayoutOf now.sealed (option_to_list e) c.element_layout.result) c.element_in.ensures c.element_layout.ensures) c.has_blocks.ensures

pub returns-in-Set : goal.returns-in-Set
returns-in-Set g c =
    let now = c.args.shapes.now in
    set_item g.L.Leaf.model now.sealed (place_of c.args.place) c.sealed_shape.result.now (record { here = c.sealed_shape.ensures; kind = sym (c.in-Set.ensures.sealed c.requires) }) c.has_blocks-in-Set.result c.element_layout-in-Set.result
    (subst (λ e. IsLayoutOf now.sealed (option_to_list e) c.element_layout-in-Set.result) c.element_in-in-Set.ensures c.element_layout-in-Set.ensures) c.has_blocks-in-Set.ensures

pub returns-in-Box : goal.returns-in-Box
returns-in-Box g c =
    let now = c.args.shapes.now in
    box_item g.L.Leaf.model now.sealed (place_of c.args.place) c.sealed_shape.result.now (record { here = c.sealed_shape.ensures; kind = sym (c.in-Box.ensures.sealed c.requires) }) c.has_blocks-in-Box.result c.element_layout-in-Box.result
    (subst (λ e. IsLayoutOf now.sealed (option_to_list e) c.element_layout-in-Box.result) c.element_in-in-Box.ensures c.element_layout-in-Box.ensures) c.has_blocks-in-Box.ensures

pub returns-in-BoxedSlice : goal.returns-in-BoxedSlice
returns-in-BoxedSlice g c =
    let now = c.args.shapes.now in
    slice_item g.L.Leaf.model now.sealed (place_of c.args.place) c.sealed_shape.result.now (record { here = c.sealed_shape.ensures; kind = sym (c.in-BoxedSlice.ensures.sealed c.requires) }) c.has_blocks-in-BoxedSlice.result c.element_layout-in-BoxedSlice.result
    (subst (λ e. IsLayoutOf now.sealed (option_to_list e) c.element_layout-in-BoxedSlice.result) (c.pointed_elements.ensures ∙ elements_stay g.L.Leaf.model now.sealed now.drafts c.sealed-sealed.ensures.registry.well_formed c.args.place.shape.0 c.sealed_shape.result.now c.sealed_shape.ensures) c.element_layout-in-BoxedSlice.ensures) c.has_blocks-in-BoxedSlice.ensures

pub returns-in-Map : goal.returns-in-Map
returns-in-Map g c =
    map_item g.L.Leaf.model c.args.shapes.now.sealed (place_of c.args.place) c.sealed_shape.result.now (record { here = c.sealed_shape.ensures; kind = sym (c.in-Map.ensures.sealed c.requires) }) c.has_blocks-in-Map.result c.map_layout.result c.map_layout.ensures c.has_blocks-in-Map.ensures

pub returns-in-NoValue : goal.returns-in-NoValue
returns-in-NoValue g c =
    any_item g.L.Leaf.model c.args.shapes.now.sealed (place_of c.args.place) c.sealed_shape.result.now c.kind_of.result (record { here = c.sealed_shape.ensures; kind = sym (c.kind_of.ensures.sealed c.requires) }) (asks_nothing c.kind_of.result c.in-NoValue.is)

use Rattle.std.proofs.Common.{All, ◌<◌, false, true, length, ◌∙◌, ap, subst, sym}
use Rattle.std.specs.List.{list_all}
use Rattle.std.specs.Option.{option_to_list}
use Rattle.facet_registry.specs.Registry.{offers}
use Rattle.facet_walk.proofs.SeenKinds.{elements_stay}
use Rattle.facet_compare.proofs.AnsweredByKind.{always_answered, kind_answered, list_answered, list_known, never_answered, slice_answered, slice_known}
use Rattle.facet_compare.proofs.answered.is_answered_by_kind.Goals as goal

pub element_offers-requires : goal.element_offers-requires
element_offers-requires g c =
    let now = c.args.shapes.now in
    subst (λ e. All (λ id. id.0 < length now.sealed) (option_to_list e)) (sym c.element_in.ensures)
    (list_known g.L.Leaf.model now.sealed c.sealed-sealed.ensures.registry.well_formed c.args.id.0 c.sealed_shape.result.now (record { here = c.sealed_shape.ensures; kind = sym (c.in-List.ensures.sealed c.requires) }))

pub element_offers-requires-in-BoxedSlice : goal.element_offers-requires-in-BoxedSlice
element_offers-requires-in-BoxedSlice g c =
    let now = c.args.shapes.now in
    let well = c.sealed-sealed.ensures.registry.well_formed in
    let stays = elements_stay g.L.Leaf.model now.sealed now.drafts well c.args.id.0 c.sealed_shape.result.now c.sealed_shape.ensures in
    subst (λ e. All (λ id. id.0 < length now.sealed) (option_to_list e)) (sym (c.pointed_elements.ensures ∙ stays))
    (slice_known g.L.Leaf.model now.sealed well c.args.id.0 c.sealed_shape.result.now (record { here = c.sealed_shape.ensures; kind = sym (c.in-BoxedSlice.ensures.sealed c.requires) }))

pub returns-in-NoValue : goal.returns-in-NoValue
returns-in-NoValue g c =
    kind_answered g.L.Leaf.model c.args.shapes.now.sealed c.sealed-sealed.ensures.registry.well_formed c.args.id.0 c.sealed_shape.result.now c.kind_of.result false
    (record { here = c.sealed_shape.ensures; kind = sym (c.kind_of.ensures.sealed c.requires) }) (never_answered c.kind_of.result c.in-NoValue.is) c.args.c (sym (c.if-not-offers.ensures.sealed c.requires))

pub returns-in-List : goal.returns-in-List
returns-in-List g c =
    let now = c.args.shapes.now in
    c.element_offers.ensures
    ∙ ap (λ e. list_all (λ id. offers now.sealed id.0 c.args.c) (option_to_list e)) c.element_in.ensures
    ∙ list_answered g.L.Leaf.model now.sealed c.sealed-sealed.ensures.registry.well_formed c.args.id.0 c.sealed_shape.result.now (record { here = c.sealed_shape.ensures; kind = sym (c.in-List.ensures.sealed c.requires) })
    c.args.c (sym (c.if-not-offers.ensures.sealed c.requires))

pub returns-in-BoxedSlice : goal.returns-in-BoxedSlice
returns-in-BoxedSlice g c =
    let now = c.args.shapes.now in
    let well = c.sealed-sealed.ensures.registry.well_formed in
    let stays = elements_stay g.L.Leaf.model now.sealed now.drafts well c.args.id.0 c.sealed_shape.result.now c.sealed_shape.ensures in
    c.element_offers-in-BoxedSlice.ensures
    ∙ ap (λ e. list_all (λ id. offers now.sealed id.0 c.args.c) (option_to_list e)) (c.pointed_elements.ensures ∙ stays)
    ∙ slice_answered g.L.Leaf.model now.sealed well c.args.id.0 c.sealed_shape.result.now (record { here = c.sealed_shape.ensures; kind = sym (c.in-BoxedSlice.ensures.sealed c.requires) })
    c.args.c (sym (c.if-not-offers.ensures.sealed c.requires))

pub returns-in-Unit : goal.returns-in-Unit
returns-in-Unit g c =
    kind_answered g.L.Leaf.model c.args.shapes.now.sealed c.sealed-sealed.ensures.registry.well_formed c.args.id.0 c.sealed_shape.result.now c.kind_of.result true
    (record { here = c.sealed_shape.ensures; kind = sym (c.kind_of.ensures.sealed c.requires) }) (always_answered c.kind_of.result c.in-Unit.is) c.args.c (sym (c.if-not-offers.ensures.sealed c.requires))

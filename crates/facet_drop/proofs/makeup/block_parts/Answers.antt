use Rattle.std.proofs.Common.{[], inl, inr, sym, ap, ◌∙◌}
use Rattle.std.specs.Option.{option_map_or}
use Rattle.facet_causes.specs.Arrangement.{single}
use Rattle.facet_drop.proofs.BlockBodies.{box_body, list_body, map_body, none_held, set_body, slice_body}
use Rattle.facet_walk.proofs.SeenKinds.{elements_stay}
use Rattle.facet_walk.specs.Look.{pair_in}
use Rattle.facet_drop.proofs.makeup.block_parts.Goals as goal

pub returns-in-List : goal.returns-in-List
returns-in-List g c =
    let sealed = c.args.shapes.now.sealed in
    let shape = c.sealed_shape-shape.result.now in
    let kind = sym (c.kind_of.ensures.sealed c.requires) in
    let held = c.one_part.ensures ∙ ap (λ e. option_map_or (λ id. single id 0) e []) c.element_in.ensures in
    elim c.in-List.is [
      | inl list ↦ held ∙ list_body sealed c.args.id.0 shape (record { here = c.sealed_shape-shape.ensures; kind = kind ∙ list })
      | inr (inl set) ↦ held ∙ set_body sealed c.args.id.0 shape (record { here = c.sealed_shape-shape.ensures; kind = kind ∙ set })
      | inr (inr box) ↦ held ∙ box_body sealed c.args.id.0 shape (record { here = c.sealed_shape-shape.ensures; kind = kind ∙ box })
    ]

pub returns-in-BoxedSlice : goal.returns-in-BoxedSlice
returns-in-BoxedSlice g c =
    let sealed = c.args.shapes.now.sealed in
    let shape = c.sealed_shape-shape.result.now in
    let stay = elements_stay g.L.Leaf.model sealed c.args.shapes.now.drafts c.sealed-sealed.ensures.registry.well_formed c.args.id.0 shape c.sealed_shape-shape.ensures in
    c.one_part-in-BoxedSlice.ensures
    ∙ ap (λ e. option_map_or (λ id. single id 0) e []) (c.pointed_elements.ensures ∙ stay)
    ∙ slice_body sealed c.args.id.0 shape (record { here = c.sealed_shape-shape.ensures; kind = sym (c.in-BoxedSlice.ensures.sealed c.requires) })

pub returns-in-Map : goal.returns-in-Map
returns-in-Map g c =
    let shape = c.sealed_shape-shape.result.now in
    c.two_parts.ensures
    ∙ ap (pair_in shape.def) c.pair_value_offset.ensures
    ∙ map_body c.args.shapes.now.sealed c.args.id.0 shape (record { here = c.sealed_shape-shape.ensures; kind = sym (c.in-Map.ensures.sealed c.requires) })

pub returns-in_default : goal.returns-in_default
returns-in_default g c =
    none_held c.args.shapes.now.sealed c.args.id.0 c.sealed_shape-shape.result.now c.kind_of.result
    (record { here = c.sealed_shape-shape.ensures; kind = sym (c.kind_of.ensures.sealed c.requires) })
    c.in_default.not-List c.in_default.not-Set c.in_default.not-Box c.in_default.not-BoxedSlice c.in_default.not-Map

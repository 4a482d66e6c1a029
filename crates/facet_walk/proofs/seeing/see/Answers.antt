use Rattle.std.proofs.Common.{[], ◌∙◌, ap, sym}
use Rattle.std.specs.Option.{option_map_or}
use Rattle.facet_causes.specs.Arrangement.{single}
use Rattle.facet_trees.specs.Structure.{option_form, result_form, tagged}
use Rattle.facet_trees.specs.declared.form.Form.TheVariants as form
use Rattle.facet_values.specs.Seen.{a_node}
use Rattle.facet_walk.specs.Look.{option_bodies, pair_in, parts_behind, pointed, result_bodies, seen_behind, seen_in_blocks}
use Rattle.facet_walk.proofs.SeenKinds.{array_seen, box_seen, elements_stay, enum_seen, leaf_seen, list_seen, map_seen, nothing_seen, option_seen, result_seen, row_stays, set_seen, slice_seen, struct_seen, unit_seen}
use Rattle.facet_walk.proofs.seeing.see.Goals as goal

pub returns-in-NoValue : goal.returns-in-NoValue
returns-in-NoValue g c =
    sym (nothing_seen c.args.shapes.now.sealed (pointed c.args.id c.args.at) c.sealed_shape-shape.result.now (record { here = c.sealed_shape-shape.ensures; kind = sym (c.in-NoValue.ensures.sealed c.requires) }))

pub returns-in-Unit : goal.returns-in-Unit
returns-in-Unit g c =
    sym (unit_seen c.args.shapes.now.sealed (pointed c.args.id c.args.at) c.sealed_shape-shape.result.now (record { here = c.sealed_shape-shape.ensures; kind = sym (c.in-Unit.ensures.sealed c.requires) }))

pub returns-in-Leaf : goal.returns-in-Leaf
returns-in-Leaf g c =
    c.see_leaf.ensures
    ∙ sym (leaf_seen c.args.shapes.now.sealed (pointed c.args.id c.args.at) c.sealed_shape-shape.result.now c.in-Leaf.field-0 (record { here = c.sealed_shape-shape.ensures; kind = sym (c.in-Leaf.ensures.sealed c.requires) }))

pub returns-in-Struct : goal.returns-in-Struct
returns-in-Struct g c =
    ap (a_node form.Record) c.struct_parts.ensures
    ∙ sym (struct_seen c.args.shapes.now.sealed (pointed c.args.id c.args.at) c.sealed_shape-shape.result.now (record { here = c.sealed_shape-shape.ensures; kind = sym (c.in-Struct.ensures.sealed c.requires) }))

pub returns-in-Array : goal.returns-in-Array
returns-in-Array g c =
    ap (a_node form.Array) (c.array_parts.ensures ∙ ap (parts_behind c.args.at) (row_stays g.L.Leaf.model c.args.shapes.now.sealed c.args.shapes.now.drafts c.sealed-sealed.ensures.registry.well_formed c.args.id.0 c.sealed_shape-shape.result.now c.sealed_shape-shape.ensures))
    ∙ sym (array_seen c.args.shapes.now.sealed (pointed c.args.id c.args.at) c.sealed_shape-shape.result.now (record { here = c.sealed_shape-shape.ensures; kind = sym (c.in-Array.ensures.sealed c.requires) }))

pub returns-in-Enum : goal.returns-in-Enum
returns-in-Enum g c =
    c.see_variant.ensures
    ∙ sym (enum_seen c.args.shapes.now.sealed (pointed c.args.id c.args.at) c.sealed_shape-shape.result.now (record { here = c.sealed_shape-shape.ensures; kind = sym (c.in-Enum.ensures.sealed c.requires) }))

pub returns-in-Option : goal.returns-in-Option
returns-in-Option g c =
    c.see_option.ensures
    ∙ ap (λ n. seen_behind (tagged option_form (option_bodies c.sealed_shape-shape.result.now.def n)) c.args.at) c.part_offset.ensures
    ∙ sym (option_seen c.args.shapes.now.sealed (pointed c.args.id c.args.at) c.sealed_shape-shape.result.now (record { here = c.sealed_shape-shape.ensures; kind = sym (c.in-Option.ensures.sealed c.requires) }))

pub returns-in-Result : goal.returns-in-Result
returns-in-Result g c =
    c.see_result.ensures
    ∙ ap (λ n. seen_behind (tagged result_form (result_bodies c.sealed_shape-shape.result.now.def n)) c.args.at) c.part_offset-in-Result.ensures
    ∙ sym (result_seen c.args.shapes.now.sealed (pointed c.args.id c.args.at) c.sealed_shape-shape.result.now (record { here = c.sealed_shape-shape.ensures; kind = sym (c.in-Result.ensures.sealed c.requires) }))

pub returns-in-List : goal.returns-in-List
returns-in-List g c =
    c.see_elements.ensures
    ∙ ap (λ e. seen_in_blocks form.List (option_map_or (λ id. single id 0) e []) c.args.at) c.element_in.ensures
    ∙ sym (list_seen c.args.shapes.now.sealed (pointed c.args.id c.args.at) c.sealed_shape-shape.result.now (record { here = c.sealed_shape-shape.ensures; kind = sym (c.in-List.ensures.sealed c.requires) }))

pub returns-in-Set : goal.returns-in-Set
returns-in-Set g c =
    c.see_elements-in-Set.ensures
    ∙ ap (λ e. seen_in_blocks form.Set (option_map_or (λ id. single id 0) e []) c.args.at) c.element_in-in-Set.ensures
    ∙ sym (set_seen c.args.shapes.now.sealed (pointed c.args.id c.args.at) c.sealed_shape-shape.result.now (record { here = c.sealed_shape-shape.ensures; kind = sym (c.in-Set.ensures.sealed c.requires) }))

pub returns-in-Box : goal.returns-in-Box
returns-in-Box g c =
    c.see_elements-in-Box.ensures
    ∙ ap (λ e. seen_in_blocks form.Box (option_map_or (λ id. single id 0) e []) c.args.at) c.element_in-in-Box.ensures
    ∙ sym (box_seen c.args.shapes.now.sealed (pointed c.args.id c.args.at) c.sealed_shape-shape.result.now (record { here = c.sealed_shape-shape.ensures; kind = sym (c.in-Box.ensures.sealed c.requires) }))

pub returns-in-BoxedSlice : goal.returns-in-BoxedSlice
returns-in-BoxedSlice g c =
    c.see_elements-in-BoxedSlice.ensures
    ∙ ap (λ e. seen_in_blocks form.BoxedSlice (option_map_or (λ id. single id 0) e []) c.args.at) (c.pointed_elements.ensures ∙ elements_stay g.L.Leaf.model c.args.shapes.now.sealed c.args.shapes.now.drafts c.sealed-sealed.ensures.registry.well_formed c.args.id.0 c.sealed_shape-shape.result.now c.sealed_shape-shape.ensures)
    ∙ sym (slice_seen c.args.shapes.now.sealed (pointed c.args.id c.args.at) c.sealed_shape-shape.result.now (record { here = c.sealed_shape-shape.ensures; kind = sym (c.in-BoxedSlice.ensures.sealed c.requires) }))

pub returns-in-Map : goal.returns-in-Map
returns-in-Map g c =
    c.see_pairs.ensures
    ∙ ap (λ n. seen_in_blocks form.Map (pair_in c.sealed_shape-shape.result.now.def n) c.args.at) c.pair_value_offset.ensures
    ∙ sym (map_seen c.args.shapes.now.sealed (pointed c.args.id c.args.at) c.sealed_shape-shape.result.now (record { here = c.sealed_shape-shape.ensures; kind = sym (c.in-Map.ensures.sealed c.requires) }))
